-- Numbers without needless zeros in front.
use Rattle.std.proofs.Common.{◌≡◌, ⊎_elim, ℕ, zero, suc, ◌+◌, ◌/◌, ◌%◌, ◌^◌, ◌<◌, ◌≤◌, Bool, false, List, [], ◌∷◌}
use Rattle.std.proofs.Common.{Option, Some, None, IfSome, IfNone, length, get_or, sym, ◌∙◌, ap, subst, arith, rules}
use Rattle.std.proofs.Common.{decimal}
use Rattle.std.specs.Fmt.{digits, digits_onto, digit_glyph}
use Rattle.std.specs.Str.Parse.{AllDigits, IsNumeral, digits_value}
use Rattle.std.proofs.lemmas.Bool.{cases_lt}
use Rattle.std.proofs.lemmas.Bool.Decides.{nat_tests}
use Rattle.std.proofs.lemmas.Fmt.{decimal-digits_value, decimal_is_IsNumeral, decimal_digit, first_decimal}
use Rattle.std.proofs.lemmas.Str.Parse.{numerals_by_value, tells_digits}
use Rattle.std.proofs.Math.Nat.{pow-le-pow_right}
use Rattle.text_lines.proofs.DigitLemmas.{digits_value-small}

-- digits are written before what stands there
length-onto : (f n : ℕ) (upper : Bool) (acc : List ℕ) → length acc ≤ length (digits_onto f 10 upper n acc)
length-onto zero n upper acc = omega arith
length-onto (suc f) n upper acc =
    let more = length-onto f (n / 10) upper (digit_glyph upper (n % 10) ∷ acc) in
    grind (arith, nat_tests)

-- a number from 10 ^ k on has more than k digits
long-onto : (k f n : ℕ) (upper : Bool) (acc : List ℕ) → k < f → 10 ^ k ≤ n
    → k + length acc < length (digits_onto f 10 upper n acc)
long-onto k zero n upper acc l h = absurd (omega arith)
long-onto zero (suc f) n upper acc l h =
    let more = length-onto f (n / 10) upper (digit_glyph upper (n % 10) ∷ acc) in
    grind (arith, nat_tests)
long-onto (suc k) (suc f) n upper acc l h =
    let rest : 10 ^ k ≤ n / 10 = omega arith in
    let some : 10 ^ 0 ≤ 10 ^ k = pow-le-pow_right {n = 10} (omega arith) {i = 0} {j = k} (omega arith) in
    let more = long-onto k f (n / 10) upper (digit_glyph upper (n % 10) ∷ acc) (omega arith) rest in
    let ne : 0 < n / 10 = omega (arith, rest, some) in
    grind (arith, nat_tests)

long_decimal : (n : ℕ) → 2 ^ 64 ≤ n → 19 < length (decimal n)
unfolding digits
long_decimal n h = omega (arith, long-onto 19 64 n false [] (omega arith) (omega (arith, h)))

-- a text of at most 19 bytes is that of a number below 2 ^ 64
small_number : (n : ℕ) → length (decimal n) ≤ 19 → n < 2 ^ 64
small_number n l =
    ⊎_elim (λ small. small) (λ large. absurd (omega (arith, long_decimal n large, l))) (cases_lt n (2 ^ 64))

-- such a text is a numeral with that value
pub numeral_of : (bytes : List ℕ) (n : ℕ) → bytes ≡ decimal n → length bytes ≤ 19
    → IsNumeral 10 bytes × (digits_value 10 bytes ≡ n)
numeral_of bytes n e l =
    let small : n < 2 ^ 64 = small_number n (subst (λ xs. length xs ≤ 19) e l) in
    subst (λ xs. IsNumeral 10 xs × (digits_value 10 xs ≡ n)) (sym e) (decimal_is_IsNumeral n small)

-- and begins with no zero, unless it is `0`
pub no_zero_in_front : (bytes : List ℕ) (n : ℕ) → bytes ≡ decimal n → length bytes ≤ 19 → 1 < length bytes
    → get_or bytes 0 0 ≡ 48 → ⊥
no_zero_in_front bytes n e l long zero_first =
    let small : n < 2 ^ 64 = small_number n (subst (λ xs. length xs ≤ 19) e l) in
    ⊎_elim (λ none. let one : length (decimal n) ≡ 1 = ap length (decimal_digit n (omega arith)) in
    omega (arith, ap length e, one, long))
    (λ some. omega (arith, first_decimal n some small, ap (λ xs. get_or xs 0 0) e, zero_first))
    (cases_lt n 1)

-- digits without a zero in front are the text of their value
numeral_is : (bytes : List ℕ) (most : ℕ) → most ≤ 19 → IsNumeral 10 bytes → length bytes ≤ most
    → (get_or bytes 0 0 ≡ 48 → length bytes ≤ 1) → bytes ≡ decimal (digits_value 10 bytes)
numeral_is bytes most few h l front =
    let below : digits_value 10 bytes < 10 ^ 19 = digits_value-small 19 bytes h.1 (omega (arith, few, l)) in
    let small : digits_value 10 bytes < 2 ^ 64 = omega (arith, below) in
    sym (decimal-digits_value (numerals_by_value (AllDigits 10) tells_digits) bytes h.1 h.0
    (λ z. omega (arith, front z, h.0)) small)

-- the same of the answer of a reading
pub numeral_found : (bytes : List ℕ) (most : ℕ) (value : Option ℕ) → most ≤ 19
    → (get_or bytes 0 0 ≡ 48 → length bytes ≤ 1) → IfSome value (λ n. digits_value 10 bytes ≡ n)
    → IfSome value (λ n. IsNumeral 10 bytes) → IfSome value (λ n. length bytes ≤ most)
    → IfSome value (λ n. bytes ≡ decimal n)
numeral_found bytes most None few front e h l = search rules
numeral_found bytes most (Some n) few front e h l = numeral_is bytes most few h l front ∙ ap decimal e

pub numeral_none : (bytes : List ℕ) (most : ℕ) (value : Option ℕ) → most ≤ 19
    → IfNone value (IsNumeral 10 bytes → length bytes ≤ most → ⊥)
    → IfNone value ((n : ℕ) → bytes ≡ decimal n → length bytes ≤ most → ⊥)
numeral_none bytes most None few none = λ n e l. none (numeral_of bytes n e (omega (arith, few, l))).0 l
numeral_none bytes most (Some n) few none = search rules
