-- What lanes tell of a number is what its digits write.
use Rattle.std.specs.Prelude.{◌-◌, ◌*◌, ◌^◌, pos}
use Rattle.std.proofs.Common.{◌≡◌, ℕ, ◌+◌, ◌<◌, ◌≤◌, List, length, take, drop, get_or, sym, ◌∙◌, ap, subst, arith}
use Rattle.std.proofs.Common.{length-take-le, length-drop, le_of_eq, pow-add, add-mul, mul_assoc}
use Rattle.decimal_numbers.specs.Decimal.{number_from}
use Rattle.decimal_numbers.proofs.Rounding.{from_is}
use Rattle.json_grammar.specs.Token.{digit_count}
use Rattle.json_events.specs.CountedNumbers.{WritesDigits, IsWhole, IsCountedRun}
use Rattle.json_events.proofs.CountedNumbers.{fraction_fits, run_fraction}

-- the digits before the point
pub whole_writes : (bs : List ℕ) (n v : ℕ) → n ≤ length bs → n ≡ digit_count bs → v ≡ number_from 0 (take n bs)
    → WritesDigits 0 bs n v
whole_writes bs n v within digits value = record {
  within = within;
  digits = le_of_eq digits;
  value_is = value;
}

-- the digits before and behind the point, as one number
abbrev pub joined : ℕ → ℕ → ℕ → ℕ
joined v m d = v * 10 ^ m + d

-- the digits behind the point, read alone
pub record IsFraction (bs : List ℕ) (n v m d : ℕ) : Type 0 where
  pub whole : IsWhole bs n v
  pub some : 0 < m
  pub few : m ≤ 8
  pub within : n + 1 + m < length bs
  pub digits : m ≡ digit_count (drop (n + 1) bs)
  pub value_is : d ≡ number_from 0 (take m (drop (n + 1) bs))

fraction_writes : (bs : List ℕ) (n v m d : ℕ) → IsFraction bs n v m d
    → WritesDigits v (drop (n + 1) bs) m (joined v m d)
fraction_writes bs n v m d f =
    let rest = drop (n + 1) bs in
    let within : m ≤ length rest = omega (arith, f.within, length-drop (n + 1) bs) in
    let l : length (take m rest) ≡ m = length-take-le m rest within in
    record {
      within = within;
      digits = le_of_eq f.digits;
      value_is = ap (λ z. v * 10 ^ m + z) f.value_is
          ∙ sym (from_is v (take m rest) ∙ ap (λ z. v * 10 ^ z + number_from 0 (take m rest)) l);
    }

pub size_joined : (v m d : ℕ) → m ≤ 8 → v * 1000000000000 + d * 10 ^ (12 - m) ≡ joined v m d * 10 ^ (12 - m)
size_joined v m d few =
    let all : m + (12 - m) ≡ 12 = omega arith in
    let e : 10 ^ m * 10 ^ (12 - m) ≡ 1000000000000 = sym (pow-add 10 m (12 - m)) ∙ ap (λ z. 10 ^ z) all in
    ap (λ z. v * z + d * 10 ^ (12 - m)) (sym e)
    ∙ ap (λ z. z + d * 10 ^ (12 - m)) (sym (mul_assoc v (10 ^ m) (10 ^ (12 - m))))
    ∙ sym (add-mul (v * 10 ^ m) d (10 ^ (12 - m)))

pub size_fits : (bs : List ℕ) (n v m d : ℕ) → IsFraction bs n v m d → v * 1000000000000 + d * 10 ^ (12 - m) < 2 ^ 64
size_fits bs n v m d f =
    let few = f.few in
    subst (λ z. z < 2 ^ 64) (sym (size_joined v m d few))
    (fraction_fits bs n v m (joined v m d) f.whole (fraction_writes bs n v m d f) (omega arith))

pub fraction_counted : (bs : List ℕ) (n v m d : ℕ) → IsFraction bs n v m d → get_or bs (n + 1 + m) 0 ≡ 44
    → IsCountedRun bs (n + 1 + m) (pos (v * 1000000000000 + d * 10 ^ (12 - m)))
fraction_counted bs n v m d f comma =
    let few = f.few in
    run_fraction bs n v m (joined v m d) (v * 1000000000000 + d * 10 ^ (12 - m)) f.whole (fraction_writes bs n v m d f)
    f.some (omega arith) f.within comma (size_joined v m d few)
