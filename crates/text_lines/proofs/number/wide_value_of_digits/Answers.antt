use Rattle.std.proofs.Common.{arith, rules, ◌≡◌, length}
use Rattle.std.specs.Str.Parse.{AllDigits}
use Rattle.std.proofs.lemmas.Bool.{false≢true}
use Rattle.text_lines.proofs.DigitLemmas.{each-digits, digits-each, digits_value-small}
use Rattle.text_lines.proofs.number.wide_value_of_digits.Goals as goal
use Rattle.text_lines.proofs.number.wide_value_of_digits.Goals.{then-is_empty-via-then-is_empty}
use Rattle.text_lines.proofs.number.wide_value_of_digits.Goals.{then-is_empty-via-else-is_empty+then-bytes-most}
use Rattle.text_lines.proofs.number.wide_value_of_digits.Goals.{then-is_empty-via-else-is_empty+else-bytes-most+then-not-are_digits}

pub returns-then-is_empty-clause-none : goal.returns-then-is_empty-clause-none
returns-then-is_empty-clause-none c = λ h few.
    elim c.then-is_empty.branch [
      | then-is_empty-via-then-is_empty w ↦ let none : length c.args.bytes.now ≡ 0 = search rules in
          omega (arith, none, h.0)
      | then-is_empty-via-else-is_empty+then-bytes-most w ↦ omega (arith, w.if-bytes-most.true, few)
      | then-is_empty-via-else-is_empty+else-bytes-most+then-not-are_digits w ↦
          false≢true (w.if-not-are_digits.ensures.1 (digits-each c.args.bytes.now h.1))
    ]

pub value_of-requires-clause-digits : goal.value_of-requires-clause-digits
value_of-requires-clause-digits c = each-digits c.args.bytes.now (c.if-not-are_digits.ensures.0 (search rules))

pub returns-clause-digits : goal.returns-clause-digits
returns-clause-digits c = (search rules, each-digits c.args.bytes.now (c.if-not-are_digits.ensures.0 (search rules)))

pub returns-clause-small : goal.returns-clause-small
returns-clause-small c =
    let digits : AllDigits 10 c.args.bytes.now =
    each-digits c.args.bytes.now (c.if-not-are_digits.ensures.0 (search rules)) in
    omega (arith, c.value_of.ensures, digits_value-small c.args.most c.args.bytes.now digits c.if-bytes-most.false)
