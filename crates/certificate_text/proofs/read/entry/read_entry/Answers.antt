use Rattle.std.proofs.Common.{Some}
use Rattle.std.proofs.lemmas.Result.{err_from_is_err_and}
use Rattle.certificate_text.specs.Grammar.{lists, KeyBelow}
use Rattle.certificate_text.specs.declared.read.refusal.Refusal.TheVariants.{Misplaced, OutOfRange}
use Rattle.certificate_text.specs.read.Reading.{key_view, EntryFits}
use Rattle.certificate_text.proofs.ReadStepLemmas.{fails_told, fails_no_line}
use Rattle.certificate_text.proofs.ReadEntryLemmas.{no_entry, low_entry, fits_back, stands_entry, told_false, not_told}
use Rattle.certificate_text.proofs.ReadEntryLemmas.{below_told}
use Rattle.certificate_text.proofs.read.entry.read_entry.Goals as goal

pub returns-in_err-line-clause-err : goal.returns-in_err-line-clause-err
returns-in_err-line-clause-err c = λ count left.
    let p = err_from_is_err_and c.from_residual.result c.from_residual.ensures.1 in
    rw (p.1, p.2) (fails_no_line c.args.inst.now (lists c.args.version count left (Some (key_view c.args.last)))
    c.args.lines.now c.in_err-line.field-0.0 (λ z. z) c.in_err-line.ensures.err)

pub returns-in_default-clause-err : goal.returns-in_default-clause-err
returns-in_default-clause-err c = λ count left.
    fails_told c.args.inst.now (lists c.args.version count left (Some (key_view c.args.last))) c.args.lines.now _
    c.in_ok-line.line Misplaced _ c.fault.ensures (λ z. z) c.in_ok-line.ensures.ok
    (no_entry c.args.version count left (key_view c.args.last) c.in_ok-line.line
    (c.requires.no_mark _ c.in_ok-line.line c.in_ok-line.ensures.ok) c.in_default.ensures.none)

pub returns-then-not-is_below-clause-err : goal.returns-then-not-is_below-clause-err
returns-then-not-is_below-clause-err c = λ count left.
    fails_told c.args.inst.now (lists c.args.version count left (Some (key_view c.args.last))) c.args.lines.now _
    c.in_ok-line.line Misplaced _ c.fault-then-not-is_below.ensures (λ z. z) c.in_ok-line.ensures.ok
    (low_entry c.args.version count left (key_view c.args.last) (key_view c.in-Some.key) c.in_ok-line.line
    c.in-Some.ensures.some (not_told c.is_below.result (KeyBelow (key_view c.args.last) (key_view c.in-Some.key))
    c.is_below.ensures c.if-not-is_below.true))

pub returns-then-not-branch-clause-err : goal.returns-then-not-branch-clause-err
returns-then-not-branch-clause-err c = λ count left.
    let key = key_view c.in-Some.key in
    let last = key_view c.args.last in
    fails_told c.args.inst.now (lists c.args.version count left (Some last)) c.args.lines.now _ c.in_ok-line.line
    OutOfRange _ c.fault-then-not-branch.ensures (λ z. z) c.in_ok-line.ensures.ok (
      stands_entry c.args.version count left last key c.in_ok-line.line c.in-Some.ensures.some
          (below_told c.is_below.result (KeyBelow last key) c.is_below.ensures c.if-not-is_below.false),
      λ fits. told_false c.in_ok-set_entry.field-0 (EntryFits c.args.inst.now c.in_ok-line.line → ⊥)
          c.if-not-branch.true c.in_ok-set_entry.ensures.unfit
          (fits_back c.args.inst.now c.args.version count left (Some last) key c.in_ok-line.line
          c.in-Some.ensures.some fits),
    )
