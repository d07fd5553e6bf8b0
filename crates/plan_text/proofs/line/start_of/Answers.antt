use Rattle.std.proofs.Common.{rules}
use Rattle.std.proofs.lemmas.Bool.{false≢true}
use Rattle.plan_text.proofs.GiveLemmas.{no_start, joined_start}
use Rattle.plan_text.proofs.line.start_of.Goals as goal

pub returns-then-not-is_blank-clause-none : goal.returns-then-not-is_blank-clause-none
returns-then-not-is_blank-clause-none c = no_start c.args.text.now _ _ c.split_digits.ensures
    (λ numeral few blank. false≢true (c.if-not-is_blank.ensures.1 blank))

pub returns-in_err-start-clause-none : goal.returns-in_err-start-clause-none
returns-in_err-start-clause-none c =
    rw c.from_residual.ensures (no_start c.args.text.now c.split_digits.result.0.now c.split_digits.result.1.now
    c.split_digits.ensures (λ numeral few blank. c.in_err-start.ensures.none numeral few))

pub returns-clause-found : goal.returns-clause-found
returns-clause-found c =
    joined_start c.args.text.now _ _ _ c.split_digits.ensures c.in_ok-start.ensures.digits c.in_ok-start.ensures.few
    (search rules) c.in_ok-start.ensures.found
