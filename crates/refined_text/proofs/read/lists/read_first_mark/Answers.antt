use Rattle.std.proofs.Common.{◌≡◌}
use Rattle.std.proofs.lemmas.Result.{err_from_is_err_and}
use Rattle.certificate_text.proofs.ReadEntryLemmas.{not_told, below_told}
use Rattle.refined_text.specs.read.Reading.{lists_begin, mark_line}
use Rattle.refined_text.proofs.ReadStepLemmas.{fails_no_line}
use Rattle.refined_text.proofs.ReadListLemmas.{first_read, first_refused}
use Rattle.refined_text.proofs.read.lists.read_first_mark.Goals as goal

pub returns-in_err-line-clause-err : goal.returns-in_err-line-clause-err
returns-in_err-line-clause-err c =
    let p = err_from_is_err_and c.from_residual.result c.from_residual.ensures.1 in
    rw (p.1, p.2) (fails_no_line c.args.inst.now (lists_begin c.args.inst.now c.args.count) c.args.lines.now
    c.in_err-line.field-0.0 (λ z. z) c.in_err-line.ensures.err)

pub returns-then-not-is_mark_for-clause-err : goal.returns-then-not-is_mark_for-clause-err
returns-then-not-is_mark_for-clause-err c =
    first_refused c.args.inst.now c.args.count c.args.lines.now _ c.in_ok-line.line _ c.fault.ensures
    c.in_ok-line.ensures.ok (not_told c.is_mark_for.result (c.in_ok-line.line ≡ mark_line c.args.count)
    c.is_mark_for.ensures c.if-not-is_mark_for.true)

pub returns-clause-ok : goal.returns-clause-ok
returns-clause-ok c =
    first_read c.args.inst.now c.args.count c.args.lines.now _ c.in_ok-line.line c.in_ok-line.ensures.ok
    (below_told c.is_mark_for.result (c.in_ok-line.line ≡ mark_line c.args.count) c.is_mark_for.ensures
    c.if-not-is_mark_for.false)
