use Rattle.std.proofs.Common.{◌∙◌, ap}
use Rattle.json_grammar.specs.Tree.{Node}
use Rattle.decimal_numbers.specs.Exact.{whole, exactly}
use Rattle.decimal_numbers.specs.Decimal.{IsWholeOf}
use Rattle.decimal_numbers.proofs.ExactLaws.{if_some, whole_sound, whole_found}
use Rattle.decimal_numbers.proofs.decimal.whole_of_number.Goals as goal

pub returns-clause-function : goal.returns-clause-function
unfolding whole
returns-clause-function c = c.exact_value.ensures ∙ ap (exactly 0 999_999_999) c.as_bytes.ensures.same

pub returns-clause-whole : goal.returns-clause-whole
returns-clause-whole c = if_some (IsWholeOf (Node.number c.args.num.now)) _ _ (returns-clause-function c)
    (whole_sound (Node.number c.args.num.now))

pub returns-clause-no_other : goal.returns-clause-no_other
returns-clause-no_other c n h = returns-clause-function c ∙ whole_found (Node.number c.args.num.now) n h
