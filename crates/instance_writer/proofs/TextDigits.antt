-- The keys of periods and starts: digits, and the number that they write.
use Rattle.std.proofs.Common.{◌≡◌, ℕ, ◌+◌, ◌-◌, ◌*◌, ◌<◌, true, List, [], ◌∷◌}
use Rattle.std.proofs.Common.{length, refl, ◌∙◌, arith, decimal}
use Rattle.std.specs.Prelude.{nat_le}
use Rattle.std.proofs.lemmas.Bool.{le-leb}
use Rattle.std.proofs.lemmas.Bool.Decides.{nat_tests}
use Rattle.std.proofs.lemmas.Fmt.{length-decimal-le, decimal_nonempty}
use Rattle.json_grammar.specs.Grammar.{AreDigits}
use Rattle.decimal_numbers.specs.Decimal as decimals
use Rattle.instance_shape.specs.Keys.{all_bytes, is_digit, is_digits, number_from, number_of}
use Rattle.instance_writer.proofs.TextTokens.{decimal_is, digits_of_int}

each_digit : {ds : List ℕ} → AreDigits ds → all_bytes is_digit ds ≡ true
each_digit AreDigits.none = refl
each_digit (AreDigits.more {b} {bs} h hs) =
    let low = h.low in
    let high = h.high in
    let one : is_digit b ≡ true = grind (arith, nat_tests) in
    rw one (each_digit hs)

-- a number below 10^9 is written with 1 to 9 digits
pub digits_are : (n : ℕ) → n < 1_000_000_000 → is_digits (decimal n) ≡ true
digits_are n h =
    let some : nat_le 1 (length (decimal n)) ≡ true =
    le-leb 1 (length (decimal n)) (omega (arith, decimal_nonempty n (omega arith))) in
    let few : nat_le (length (decimal n)) 9 ≡ true =
    le-leb (length (decimal n)) 9 (length-decimal-le 9 n (omega arith) (omega arith) (omega arith)) in
    rw (some, few) (each_digit (digits_of_int (decimal_is n (omega arith)).int))

same_number : (n : ℕ) (ds : List ℕ) → number_from n ds ≡ decimals.number_from n ds
same_number n [] = refl
same_number n (d ∷ ds) = same_number (n * 10 + (d - 48)) ds

-- and the digits write this number
pub number_is : (n : ℕ) → n < 1_000_000_000 → number_of (decimal n) ≡ n
number_is n h = same_number 0 (decimal n) ∙ (decimal_is n (omega arith)).value
