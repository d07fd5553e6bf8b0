-- What is due for `evaluate`, where a file is refused, and where both were read.
use Rattle.std.proofs.lemmas.Result.{err_from_is_err_and}
use Rattle.command_frame.specs.Sources.{source_view}
use Rattle.command_frame.specs.Ending.{reply}
use Rattle.command_frame.specs.Files.{reading, OnPlan}
use Rattle.command_answers.specs.Evaluate.{Judges}
use Rattle.command_frame.proofs.FileLemmas.{is_read}
use Rattle.command_frame.proofs.ReadLemmas.{kept_before, refuses_instance, refuses_plan}
use Rattle.command_evaluate.proofs.EvaluateLemmas.{evaluate_judges}
use Rattle.command_frame.proofs.EndLemmas.{reads_more}
use Rattle.command_evaluate.proofs.evaluate.evaluate.Goals as goal

pub returns-in_err-inst-clause-err : goal.returns-in_err-inst-clause-err
returns-in_err-inst-clause-err g c =
    let old = g.D.Desk.shows c.args.desk.now in
    let new = g.D.Desk.shows c.instance_of.new.desk in
    let p = err_from_is_err_and c.from_residual.result c.from_residual.ensures.1 in
    rw (p.1, p.2)
    (refuses_instance c.args.limits.now (source_view c.args.source.now) old new
    (λ i. OnPlan c.args.limits.now i (reading old new) 3 c.args.plan.now (Judges i)) _ c.in_err-inst.ensures.err)

pub returns-in_err-plan-clause-err : goal.returns-in_err-plan-clause-err
returns-in_err-plan-clause-err g c =
    let old = g.D.Desk.shows c.args.desk.now in
    let mid = g.D.Desk.shows c.instance_of.new.desk in
    let p = err_from_is_err_and c.from_residual-in_err-plan.result c.from_residual-in_err-plan.ensures.1 in
    rw (p.1, p.2)
    (refuses_plan c.args.limits.now (source_view c.args.source.now) c.args.plan.now old mid
    (g.D.Desk.shows c.plan_of.new.desk) c.in_ok-inst.inst Judges _ c.in_ok-inst.ensures.ok
    (is_read c.args.source.now.instance.now old mid c.in_ok-inst.ensures.read c.in_ok-inst.ensures.faults)
    c.in_err-plan.ensures.err)

pub returns-in_err-plan-clause-kept : goal.returns-in_err-plan-clause-kept
returns-in_err-plan-clause-kept g c =
    let p = err_from_is_err_and c.from_residual-in_err-plan.result c.from_residual-in_err-plan.ensures.1 in
    rw (p.1, p.2)
    (kept_before (g.D.Desk.shows c.args.desk.now) (g.D.Desk.shows c.instance_of.new.desk)
    (g.D.Desk.shows c.plan_of.new.desk) _ c.in_ok-inst.ensures.faults c.in_err-plan.ensures.kept)

pub returns-in_err-plan-clause-only_reads : goal.returns-in_err-plan-clause-only_reads
returns-in_err-plan-clause-only_reads g c =
    reads_more (g.D.Desk.shows c.args.desk.now) (g.D.Desk.shows c.instance_of.new.desk)
    (g.D.Desk.shows c.plan_of.new.desk) c.in_ok-inst.ensures.only_reads c.in_err-plan.ensures.only_reads

pub returns-in-Ok-clause-ok : goal.returns-in-Ok-clause-ok
returns-in-Ok-clause-ok g c =
    let old = g.D.Desk.shows c.args.desk.now in
    let mid = g.D.Desk.shows c.instance_of.new.desk in
    let new = g.D.Desk.shows c.plan_of.new.desk in
    evaluate_judges c.args.limits.now (source_view c.args.source.now) c.args.plan.now old mid new c.in_ok-inst.inst
    c.in_ok-plan.plan
    (reply c.in-Ok.report.status c.in-Ok.report.text) c.in_ok-inst.ensures.ok
    (is_read c.args.source.now.instance.now old mid c.in_ok-inst.ensures.read c.in_ok-inst.ensures.faults)
    c.in_ok-plan.ensures.ok c.in-Ok.ensures
