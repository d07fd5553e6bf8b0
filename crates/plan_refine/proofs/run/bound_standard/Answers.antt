-- The limits are the standard ones.
use Rattle.std.specs.Prelude.{option_copied}
use Rattle.std.proofs.Common.{subst}
use Rattle.instance_model.specs.declared.limits.Limits.{Limits}
use Rattle.command_frame.specs.Sources.{source_view}
use Rattle.command_bound.specs.Bounding.{RunsBound}
use Rattle.plan_refine.proofs.run.bound_standard.Goals as goal

pub returns : goal.returns
returns g c =
    let old = g.D.Desk.shows c.args.desk.now in
    let new = g.D.Desk.shows c.bound_files.new.desk in
    let source = source_view c.args.source.now in
    let plan = option_copied c.args.plan in
    let cert = option_copied c.args.cert in
    subst (λ (l : Limits). RunsBound l source plan cert c.args.out.now c.args.turns c.args.part old new
    c.bound_files.result)
    c.standard-limits.ensures c.bound_files.ensures
