-- What is due for `roll`, where a file is refused, and where both were read.
use Rattle.std.proofs.lemmas.Result.{err_from_is_err_and}
use Rattle.command_frame.specs.Files.{reading, OnPlan}
use Rattle.command_frame.proofs.FileLemmas.{is_read}
use Rattle.command_frame.proofs.ReadLemmas.{kept_before, refuses_instance, refuses_plan}
use Rattle.command_roll.specs.Rolling.{source_of, Rolls}
use Rattle.command_roll.specs.Made.{files_view, answer_of}
use Rattle.command_roll.proofs.RollAnswers.{roll_answers}
use Rattle.command_roll.proofs.roll.roll.Goals as goal

pub returns-in_err-inst-clause-err : goal.returns-in_err-inst-clause-err
returns-in_err-inst-clause-err g c =
    let files = files_view c.args.files.now in
    let old = g.D.Desk.shows c.args.desk.now in
    let new = g.D.Desk.shows c.instance_of.new.desk in
    let p = err_from_is_err_and c.from_residual.result c.from_residual.ensures.1 in
    rw (p.1, p.2)
    (refuses_instance c.args.limits.now (source_of files) old new
    (λ i. OnPlan c.args.limits.now i (reading old new) 3 files.plan
    (λ p. Rolls c.args.limits.now i p c.args.period files)) _ c.in_err-inst.ensures.err)

pub returns-in_err-plan-clause-err : goal.returns-in_err-plan-clause-err
returns-in_err-plan-clause-err g c =
    let files = files_view c.args.files.now in
    let old = g.D.Desk.shows c.args.desk.now in
    let mid = g.D.Desk.shows c.instance_of.new.desk in
    let p = err_from_is_err_and c.from_residual-in_err-plan.result c.from_residual-in_err-plan.ensures.1 in
    rw (p.1, p.2)
    (refuses_plan c.args.limits.now (source_of files) files.plan old mid (g.D.Desk.shows c.plan_of.new.desk)
    c.in_ok-inst.inst (λ i p. Rolls c.args.limits.now i p c.args.period files) _ c.in_ok-inst.ensures.ok
    (is_read files.instance old mid c.in_ok-inst.ensures.read c.in_ok-inst.ensures.faults)
    c.in_err-plan.ensures.err)

pub returns-in_err-plan-clause-kept : goal.returns-in_err-plan-clause-kept
returns-in_err-plan-clause-kept g c =
    let p = err_from_is_err_and c.from_residual-in_err-plan.result c.from_residual-in_err-plan.ensures.1 in
    rw (p.1, p.2)
    (kept_before (g.D.Desk.shows c.args.desk.now) (g.D.Desk.shows c.instance_of.new.desk)
    (g.D.Desk.shows c.plan_of.new.desk) _ c.in_ok-inst.ensures.faults c.in_err-plan.ensures.kept)

pub returns-in-Ok-clause-ok : goal.returns-in-Ok-clause-ok
returns-in-Ok-clause-ok g c =
    let files = files_view c.args.files.now in
    let old = g.D.Desk.shows c.args.desk.now in
    let mid = g.D.Desk.shows c.instance_of.new.desk in
    let new = g.D.Desk.shows c.plan_of.new.desk in
    roll_answers c.args.limits.now files c.args.period old mid new c.in_ok-inst.inst c.in_ok-plan.plan
    (answer_of files c.in_ok-inst.inst c.in_ok-plan.plan c.args.period c.in-Ok.outcome) c.in_ok-inst.ensures.ok
    (is_read files.instance old mid c.in_ok-inst.ensures.read c.in_ok-inst.ensures.faults)
    c.in_ok-plan.ensures.ok (c.in-Ok.ensures files)
