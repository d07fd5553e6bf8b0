use Rattle.std.proofs.Common.{arith, ◌≡◌, ◌∙◌, ap, take}
use Rattle.std.specs.Str.Parse.{digits_value}
use Rattle.std.proofs.lemmas.List.{take_all}
use Rattle.text_lines.proofs.DigitLemmas.{next_value}
use Rattle.text_lines.proofs.number.value_of.Goals as goal

pub overflow_mul-value : goal.overflow_mul-value
overflow_mul-value c =
    omega (
      arith,
      (next_value 38 c.args.digits.now _ _ c.loop-digit-test.true c.requires.few c.requires.digits
          c.loop-digit.invariant).small,
    )

pub overflow_sub-digit : goal.overflow_sub-digit
overflow_sub-digit c =
    (next_value 38 c.args.digits.now _ _ c.loop-digit-test.true c.requires.few c.requires.digits
    c.loop-digit.invariant).from

pub overflow_add-value : goal.overflow_add-value
overflow_add-value c =
    omega (
      arith,
      (next_value 38 c.args.digits.now _ _ c.loop-digit-test.true c.requires.few c.requires.digits
          c.loop-digit.invariant).small,
    )

pub loop-digit-preserved : goal.loop-digit-preserved
loop-digit-preserved c =
    omega (
      arith,
      (next_value 38 c.args.digits.now _ _ c.loop-digit-test.true c.requires.few c.requires.digits
          c.loop-digit.invariant).is,
    )

pub returns : goal.returns
returns c =
    let ds = c.args.digits.now in
    let all : take c.loop-digit.digit-index ds ≡ ds = take_all c.loop-digit.digit-index ds (omega arith) in
    c.loop-digit.invariant ∙ ap (digits_value 10) all
