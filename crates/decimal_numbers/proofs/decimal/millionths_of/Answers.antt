use Rattle.std.proofs.Common.{◌∙◌, ap}
use Rattle.decimal_numbers.specs.Exact.{millionths, exactly}
use Rattle.decimal_numbers.specs.Decimal.{IsMillionthsOf}
use Rattle.decimal_numbers.proofs.ExactLaws.{if_some, millionths_sound, millionths_found}
use Rattle.decimal_numbers.proofs.decimal.millionths_of.Goals as goal

pub returns-clause-function : goal.returns-clause-function
unfolding millionths
returns-clause-function c = c.exact_value.ensures ∙ ap (exactly 6 1_000_000) c.as_bytes.ensures.same

pub returns-clause-millionths : goal.returns-clause-millionths
returns-clause-millionths c =
    if_some (IsMillionthsOf c.args.num.now) _ _ (returns-clause-function c) (millionths_sound c.args.num.now)

pub returns-clause-no_other : goal.returns-clause-no_other
returns-clause-no_other c n h = returns-clause-function c ∙ millionths_found c.args.num.now n h
