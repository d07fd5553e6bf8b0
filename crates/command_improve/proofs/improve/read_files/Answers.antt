-- What was read for `improve`, or why it was not.
use Rattle.std.specs.Prelude.{option_copied}
use Rattle.std.proofs.Common.{inl, inr}
use Rattle.std.proofs.lemmas.Result.{err_from_is_err_and}
use Rattle.command_frame.specs.Sources.{source_view}
use Rattle.command_frame.proofs.FileLemmas.{is_read}
use Rattle.command_frame.proofs.ReadLemmas.{kept_before}
use Rattle.command_improve.proofs.ReadingLemmas.{both_read}
use Rattle.command_improve.proofs.improve.read_files.Goals as goal

pub returns-in_err-inst-clause-err : goal.returns-in_err-inst-clause-err
returns-in_err-inst-clause-err g c =
    let p = err_from_is_err_and c.from_residual.result c.from_residual.ensures.1 in
    rw (p.1, p.2) (inl c.in_err-inst.ensures.err)

pub returns-in_err-plan-clause-err : goal.returns-in_err-plan-clause-err
returns-in_err-plan-clause-err g c =
    let p = err_from_is_err_and c.from_residual-in_err-plan.result c.from_residual-in_err-plan.ensures.1 in
    rw (p.1, p.2)
    (inr (record {
      inst = c.in_ok-inst.inst;
      reads = c.in_ok-inst.ensures.ok;
      at = g.D.Desk.shows c.instance_of.new.desk;
      read = c.in_ok-inst.ensures.read;
      same = c.in_ok-inst.ensures.faults;
      cause = c.in_err-plan.ensures.err;
    }))

pub returns-in_err-plan-clause-kept : goal.returns-in_err-plan-clause-kept
returns-in_err-plan-clause-kept g c =
    let p = err_from_is_err_and c.from_residual-in_err-plan.result c.from_residual-in_err-plan.ensures.1 in
    rw (p.1, p.2)
    (kept_before (g.D.Desk.shows c.args.desk.now) (g.D.Desk.shows c.instance_of.new.desk)
    (g.D.Desk.shows c.given_plan_of.new.desk) _ c.in_ok-inst.ensures.faults c.in_err-plan.ensures.kept)

pub returns-clause-ok : goal.returns-clause-ok
returns-clause-ok g c =
    let old = g.D.Desk.shows c.args.desk.now in
    let mid = g.D.Desk.shows c.instance_of.new.desk in
    both_read c.args.limits.now (source_view c.args.source.now) (option_copied c.args.plan) old mid c.in_ok-inst.inst
    c.in_ok-plan.plan c.in_ok-inst.ensures.ok
    (is_read c.args.source.now.instance.now old mid c.in_ok-inst.ensures.read c.in_ok-inst.ensures.faults)
    c.in_ok-plan.ensures.ok c.in_ok-plan.ensures.each
