-- Decimal digits and the numbers that they write.
use Rattle.std.proofs.Common.{◌≡◌, ℕ, ◌+◌, ◌-◌, ◌*◌, ◌^◌, ◌<◌, ◌≤◌, List, [], ◌∷◌, length, take, get_or, subst, arith}
use Rattle.std.proofs.Common.{rules}
use Rattle.std.specs.List.{All}
use Rattle.std.specs.Char.{digit_value}
use Rattle.std.specs.Str.Parse.{AllDigits, digits_value}
use Rattle.std.proofs.lemmas.Bool.Decides.{nat_tests}
use Rattle.std.proofs.lemmas.Int.Digits.{digits_value-lt, digits_value_more}
use Rattle.std.proofs.lemmas.List.{length-take-le}
use Rattle.std.proofs.Math.Nat.{pow-le-pow_right}
use Rattle.std.proofs.lemmas.List.Elements.{All-nil, All-cons, All-head, All-tail, All-take}

-- a decimal digit is a byte from 48 to 57
pub record IsDigit (b : ℕ) : Type 0 where
  pub from : 48 ≤ b
  pub to : b ≤ 57
  pub value : digit_value b ≡ b - 48

pub digit_bytes : (b : ℕ) → digit_value b < 10 → IsDigit b
digit_bytes b h = record {
  from = grind (arith, nat_tests);
  to = grind (arith, nat_tests);
  value = grind (arith, nat_tests);
}

-- each byte is a digit, said of the list and by recursion
pub digits-each : (ds : List ℕ) → AllDigits 10 ds → All (λ b. digit_value b < 10) ds
digits-each [] h = All-nil (λ b. digit_value b < 10)
digits-each (b ∷ bs) h = All-cons (λ b. digit_value b < 10) b bs h.0 (digits-each bs h.1)

pub each-digits : (ds : List ℕ) → All (λ b. digit_value b < 10) ds → AllDigits 10 ds
each-digits [] h = search rules
each-digits (b ∷ bs) h =
    (All-head (λ b. digit_value b < 10) b bs h, each-digits bs (All-tail (λ b. digit_value b < 10) b bs h))

-- up to k digits write a number below 10 ^ k
pub digits_value-small : (k : ℕ) (ds : List ℕ) → AllDigits 10 ds → length ds ≤ k → digits_value 10 ds < 10 ^ k
digits_value-small k ds h l =
    let below : digits_value 10 ds < 10 ^ length ds = digits_value-lt 10 ds h in
    let most : 10 ^ length ds ≤ 10 ^ k = pow-le-pow_right {n = 10} (omega arith) l in
    omega (arith, below, most)

-- the number that the digits up to the next one write
pub record NextValue (k : ℕ) (ds : List ℕ) (i value : ℕ) : Type 0 where
  pub from : 48 ≤ get_or ds i 0
  pub is : digits_value 10 (take (i + 1) ds) ≡ value * 10 + (get_or ds i 0 - 48)
  pub small : value * 10 + (get_or ds i 0 - 48) < 10 ^ k

pub next_value : (k : ℕ) (ds : List ℕ) (i value : ℕ) → i < length ds → length ds ≤ k → AllDigits 10 ds
    → value ≡ digits_value 10 (take i ds) → NextValue k ds i value
next_value k ds i value l few h e =
    let digit : IsDigit (get_or ds i 0) = digit_bytes (get_or ds i 0) (digits-each ds h i 0 l) in
    let is : digits_value 10 (take (i + 1) ds) ≡ value * 10 + (get_or ds i 0 - 48) =
    omega (arith, digits_value_more 10 ds i l, digit.value, e) in
    let front : AllDigits 10 (take (i + 1) ds) =
    each-digits (take (i + 1) ds) (All-take (λ b. digit_value b < 10) (i + 1) ds (digits-each ds h)) in
    let short : length (take (i + 1) ds) ≤ k = omega (arith, length-take-le (i + 1) ds (omega arith)) in
    record {
      from = digit.from;
      is = is;
      small = subst (λ n. n < 10 ^ k) is (digits_value-small k (take (i + 1) ds) front short);
    }
