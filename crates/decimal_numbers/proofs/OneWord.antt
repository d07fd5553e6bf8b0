-- Numbers whose digits fit one word.
use Rattle.std.specs.Prelude.{◌-◌, ◌*◌, ◌^◌}
use Rattle.std.proofs.Common.{◌≡◌, ℕ, zero, suc, ◌+◌, ◌<◌, ◌≤◌, List, [], ◌++◌, length, Some, Bool, true, false, refl}
use Rattle.std.proofs.Common.{sym, ◌∙◌, ap, subst, arith, pow-add}
use Rattle.std.proofs.Math.Nat.{pow-suc, pow-le-pow_right, mul-le-mul_right, mul-lt-mul_of_pos_right}
use Rattle.json_grammar.specs.Grammar.{Parts}
use Rattle.decimal_numbers.specs.Decimal.{number, numerator, denominator, raised_by, lowered_by}
use Rattle.decimal_numbers.specs.Scaling.{AreAllDigits, FitsOneWord, Rounds}
use Rattle.decimal_numbers.proofs.Rounding.{below, ten_positive, ten_large}
use Rattle.decimal_numbers.proofs.Tallying.{exact_rounds, same_false}
use Rattle.decimal_numbers.proofs.Capped.{listed, whole_power}

nineteen : (k : ℕ) → k ≤ 19 → 10 ^ k ≤ 2 ^ 64
nineteen k h = let f : 10 ^ k ≤ 10 ^ 19 = pow-le-pow_right {n = 10} (omega arith) h in omega arith

-- digits fit behind no number
pub whole_room : (k : ℕ) → k ≤ 19 → (0 + 1) * 10 ^ k ≤ 2 ^ 64
whole_room k h = let f = nineteen k h in omega arith

-- and behind a number of few enough digits
pub fraction_room : (n i j : ℕ) → n < 10 ^ i → i + j ≤ 19 → (n + 1) * 10 ^ j ≤ 2 ^ 64
fraction_room n i j h l =
    let f : (n + 1) * 10 ^ j ≤ 10 ^ i * 10 ^ j = mul-le-mul_right (10 ^ j) (omega arith) in
    let g : 10 ^ (i + j) ≡ 10 ^ i * 10 ^ j = pow-add 10 i j in
    let m = nineteen (i + j) l in
    omega arith

pub number_below : (ds : List ℕ) → AreAllDigits ds → number ds < 10 ^ length ds
number_below ds h = below (listed ds h)

-- a digit more takes one place of the room
pub room_more : (v d k : ℕ) → 0 < k → d ≤ 9 → (v + 1) * 10 ^ k ≤ 2 ^ 64 → (v * 10 + d + 1) * 10 ^ (k - 1) ≤ 2 ^ 64
room_more v d zero h m r = absurd (omega arith)
room_more v d (suc k) h m r =
    let e : 10 ^ suc k ≡ 10 ^ k * 10 = pow-suc 10 k in
    let f : (v * 10 + d + 1) * 10 ^ k ≤ (v + 1) * 10 * 10 ^ k = mul-le-mul_right (10 ^ k) (omega arith) in
    let g : (v + 1) * 10 * 10 ^ k ≡ (v + 1) * (10 ^ k * 10) = regroup (v + 1) (10 ^ k) in
    let i : (v + 1) * 10 ^ suc k ≡ (v + 1) * (10 ^ k * 10) = ap (λ z. (v + 1) * z) e in
    let j : suc k - 1 ≡ k = omega arith in
    rw j (omega arith)
  where
    regroup : (a t : ℕ) → a * 10 * t ≡ a * (t * 10)
    regroup a t = grind arith

pub room_fits : (v k : ℕ) → (v + 1) * 10 ^ k ≤ 2 ^ 64 → v < 2 ^ 64
room_fits v k h = let f = ten_large (v + 1) k in omega arith

-- the size fits
pub size_small : (n i f places : ℕ) → n < 10 ^ (i + f) → f ≤ places → i + places ≤ 19 → n * 10 ^ (places - f) < 2 ^ 64
size_small n i f places h l m =
    let a : n * 10 ^ (places - f) < 10 ^ (i + f) * 10 ^ (places - f) =
    mul-lt-mul_of_pos_right h (ten_positive (places - f)) in
    let b : 10 ^ (i + f + (places - f)) ≡ 10 ^ (i + f) * 10 ^ (places - f) = pow-add 10 (i + f) (places - f) in
    let c = nineteen (i + f + (places - f)) (omega arith) in
    omega arith

raised_nothing : (b : Bool) → raised_by b [] ≡ 0
raised_nothing true = refl
raised_nothing false = refl

lowered_nothing : (b : Bool) → lowered_by b [] ≡ 0
lowered_nothing true = refl
lowered_nothing false = refl

plain_numerator : (p : Parts) (places : ℕ) → p.exponent ≡ []
    → numerator p places ≡ number (p.whole ++ p.fraction) * 10 ^ places
plain_numerator p places e =
    let r : raised_by p.shrinks p.exponent ≡ 0 = ap (raised_by p.shrinks) e ∙ raised_nothing p.shrinks in
    let s : raised_by p.shrinks p.exponent + places ≡ places = omega arith in
    ap (λ z. number (p.whole ++ p.fraction) * 10 ^ z) s

plain_denominator : (p : Parts) → p.exponent ≡ [] → denominator p ≡ 10 ^ length p.fraction
plain_denominator p e =
    let r : lowered_by p.shrinks p.exponent ≡ 0 = ap (lowered_by p.shrinks) e ∙ lowered_nothing p.shrinks in
    let s : lowered_by p.shrinks p.exponent + length p.fraction ≡ length p.fraction = omega arith in
    ap (λ z. 10 ^ z) s

-- nothing is rounded
pub short_rounds : (p : Parts) (places size : ℕ) → FitsOneWord p places
    → size ≡ number (p.whole ++ p.fraction) * 10 ^ (places - length p.fraction) → size < 10 ^ 20
    → Rounds (numerator p places) (denominator p) (Some size) false
short_rounds p places size h e l =
    let q = 10 ^ length p.fraction in
    let n : numerator p places ≡ size * q = plain_numerator p places h.plain
    ∙ whole_power (number (p.whole ++ p.fraction)) places (length p.fraction) h.exact ∙ ap (λ z. z * q) (sym e) in
    let d : denominator p ≡ q = plain_denominator p h.plain in
    let exact : Rounds (size * q) q (Some size) false =
    record {
      c = size;
      rounded = exact_rounds size q (ten_positive (length p.fraction));
      size_is = (refl, l);
      differs_is = same_false (size * q) (size * q) refl;
    } in
    subst (λ a. Rounds a (denominator p) (Some size) false) (sym n)
    (subst (λ b. Rounds (size * q) b (Some size) false) (sym d) exact)
