-- A key of 1 to 9 digits has the form of a period or start, which is the number that they write.
use Rattle.std.proofs.Common.{◌≡◌, ℕ, suc, ◌≤◌, ◌-◌, ◌+◌, ◌*◌, List, [], ◌∷◌, Bool, true, false, cond, length, refl}
use Rattle.std.proofs.Common.{◌∙◌, sym, arith}
use Rattle.std.proofs.lemmas.Bool.Decides.{nat_tests}
use Rattle.json_grammar.specs.Bytes.{is_digit}
use Rattle.json_grammar.specs.Token.{digit_count}
use Rattle.decimal_numbers.specs.Decimal as decimal
use Rattle.instance_shape.specs.Keys as keys
use Rattle.instance_shape.specs.Keys.{all_bytes, is_digits, number_of}

-- where as many digits as bytes are in front, each byte is a digit
all_digits : (text : List ℕ) → digit_count text ≡ length text → all_bytes keys.is_digit text ≡ true
all_digits [] e = refl
all_digits (b ∷ bs) e = by (is_digit b) refl e (all_digits bs)
  where
    by : (t : Bool) → is_digit b ≡ t → cond t (suc (digit_count bs)) 0 ≡ suc (length bs)
        → (digit_count bs ≡ length bs → all_bytes keys.is_digit bs ≡ true) → all_bytes keys.is_digit (b ∷ bs) ≡ true
    by true h i rest = rw (h, rest (omega (arith, i))) refl
    by false h i rest = absurd (omega (arith, i))

-- the form of a period or start
pub has_form : (text : List ℕ) → 1 ≤ length text → length text ≤ 9 → digit_count text ≡ length text
    → is_digits text ≡ true
has_form text some few digits =
    let all : all_bytes keys.is_digit text ≡ true = all_digits text digits in
    grind (arith, nat_tests)

same_number : (n : ℕ) (text : List ℕ) → keys.number_from n text ≡ decimal.number_from n text
same_number n [] = refl
same_number n (b ∷ bs) = same_number (n * 10 + (b - 48)) bs

-- the number that the digits write
pub has_value : (text : List ℕ) (number : ℕ) → number ≡ decimal.number_from 0 text → number_of text ≡ number
has_value text number e = same_number 0 text ∙ sym e
