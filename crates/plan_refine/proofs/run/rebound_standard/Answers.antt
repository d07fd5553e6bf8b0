-- The limits are the standard ones.
use Rattle.std.proofs.Common.{subst}
use Rattle.instance_model.specs.declared.limits.Limits.{Limits}
use Rattle.refined_files.specs.RefinedKind.{refined_kind}
use Rattle.command_frame.specs.Sources.{source_view}
use Rattle.command_rebound.specs.Rebinding.{RunsReboundBy}
use Rattle.plan_refine.proofs.run.rebound_standard.Goals as goal

pub returns : goal.returns
returns g c =
    let old = g.D.Desk.shows c.args.desk.now in
    let new = g.D.Desk.shows c.rebound_files_by.new.desk in
    let source = source_view c.args.source.now in
    subst (λ (l : Limits). RunsReboundBy refined_kind l source c.args.certificate.now c.args.out.now old new
    c.rebound_files_by.result) c.standard-limits.ensures c.rebound_files_by.ensures
