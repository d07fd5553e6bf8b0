-- A number of a file, as a multiple of a power of ten, rounds to its count.
use Rattle.std.proofs.Common.{◌≡◌, ℕ, zero, suc, ◌+◌, ◌-◌, ◌*◌, ◌^◌, ◌<◌, ◌≤◌, Bool, true, false, not, List, ◌++◌, refl}
use Rattle.std.proofs.Common.{sym, ◌∙◌, ap, subst, arith, ℤ, pos, ◌-ℤ◌, ◌*ℤ◌, unsigned_abs}
use Rattle.std.specs.Prelude.{◌==◌}
use Rattle.std.proofs.Math.Nat.{mul_assoc, mul-le-mul_left, lt_of_mul-lt-mul_right}
use Rattle.std.proofs.lemmas.Bool.{not-false, eqb-true}
use Rattle.std.proofs.lemmas.Nat.{pow-add}
use Rattle.fixed_num.proofs.SignedLemmas.{signed_arith}
use Rattle.json_grammar.specs.Grammar.{Parts}
use Rattle.decimal_numbers.specs.Decimal.{number, raised_by, numerator, denominator, signed, IsNearest, IsFixedOf}
use Rattle.decimal_numbers.specs.Scaling.{IsRounded}
use Rattle.decimal_numbers.proofs.ExactLaws.{bounds, positive}
use Rattle.json_grammar.proofs.Tokens.{one_parts}
use Rattle.instance_model.specs.Exact.{RoundsTo}
use Rattle.instance_shape.specs.OwnNumbers.{IsMultiple}

-- ---- sizes

-- a count is 10^(places - 12) multiples of 10^-places
numerator_scaled : (p : Parts) (places : ℕ) → 12 ≤ places → numerator p places ≡ numerator p 12 * 10 ^ (places - 12)
numerator_scaled p places h =
    let digits = number (p.whole ++ p.fraction) in
    let r = raised_by p.shrinks p.exponent in
    let e : r + places ≡ r + 12 + (places - 12) = omega arith in
    ap (λ k. digits * 10 ^ k) e ∙ ap (λ z. digits * z) (pow-add 10 (r + 12) (places - 12))
    ∙ sym (mul_assoc digits (10 ^ (r + 12)) (10 ^ (places - 12)))

-- c is nearest to a / b, and size / f is a / b: they are at most a half apart
at_most : (a b c f size : ℕ) → IsRounded a b c → size * b ≡ a * f → 0 < b → 2 * size ≤ 2 * (f * c) + f
at_most a b c f size r e p =
    let high : f * (2 * a + b) ≤ f * (2 * ((c + 1) * b)) = mul-le-mul_left f (omega (arith, r.high)) in
    let scaled : 2 * size * b < (2 * (f * c) + f + 1) * b = omega (arith, high, e, p) in
    omega (arith, lt_of_mul-lt-mul_right b scaled)

at_least : (a b c f size : ℕ) → IsRounded a b c → size * b ≡ a * f → 0 < b → 2 * (f * c) ≤ 2 * size + f
at_least a b c f size r e p =
    let low : f * (2 * (c * b)) ≤ f * (2 * a + b) = mul-le-mul_left f r.low in
    let scaled : 2 * (f * c) * b < (2 * size + f + 1) * b = omega (arith, low, e, p) in
    omega (arith, lt_of_mul-lt-mul_right b scaled)

same_size : (a b c f size : ℕ) → c * b ≡ a → size * b ≡ a * f → 0 < b → size ≡ f * c
same_size a b c f size x e p =
    let up : size * b < (f * c + 1) * b = omega (arith, e, p, ap (λ n. n * f) x) in
    let down : f * c * b < (size + 1) * b = omega (arith, e, p, ap (λ n. n * f) x) in
    omega (arith, lt_of_mul-lt-mul_right b up, lt_of_mul-lt-mul_right b down)

-- ---- sizes with their sign

signed_scaled : (negative : Bool) (f c : ℕ) → pos f *ℤ signed negative c ≡ signed negative (f * c)
signed_scaled false f c = refl
signed_scaled true f zero = let z : f * 0 ≡ 0 = omega arith in rw z refl
signed_scaled true f (suc c) = refl

signed_near : (negative : Bool) (f n m : ℕ) → 2 * n ≤ 2 * m + f → 2 * m ≤ 2 * n + f
    → 2 * unsigned_abs (signed negative n -ℤ signed negative m) ≤ f
signed_near true f n m h l = omega (arith, signed_arith)
signed_near false f n m h l = omega (arith, signed_arith)

parts_round : (p : Parts) (f size c : ℕ) (differs : Bool) → size * denominator p ≡ numerator p 12 * f
    → IsNearest (numerator p 12) (denominator p) c → differs ≡ not (c * denominator p == numerator p 12)
    → RoundsTo f differs (signed p.negative size) (signed p.negative c)
parts_round p f size c true e n d =
    let r = bounds (numerator p 12) (denominator p) c (positive p) n in
    rw (signed_scaled p.negative f c)
    (signed_near p.negative f size (f * c) (at_most (numerator p 12) (denominator p) c f size r e (positive p))
    (at_least (numerator p 12) (denominator p) c f size r e (positive p)))
parts_round p f size c false e n d =
    let exact =
    eqb-true (c * denominator p) (numerator p 12) (not-false (c * denominator p == numerator p 12) (sym d)) in
    ap (λ k. signed p.negative k) (same_size (numerator p 12) (denominator p) c f size exact e (positive p))
    ∙ sym (signed_scaled p.negative f c)

-- ---- tokens

-- a token's value in 10^-places rounds to its count, and is it where the count doesn't differ from the value
pub token_rounds : (token : List ℕ) (places : ℕ) (z count : ℤ) (differs : Bool) → 12 ≤ places
    → IsMultiple places token z → IsFixedOf token count differs → RoundsTo (10 ^ (places - 12)) differs z count
token_rounds token places z count differs h m x =
    let p = x.parts in
    let same : m.parts ≡ p = one_parts m.token_parts x.token_parts in
    let exact : m.size * denominator p ≡ numerator p places =
    subst (λ (q : Parts). m.size * denominator q ≡ numerator q places) same m.exact in
    let z_is : z ≡ signed p.negative m.size = m.z_is ∙ ap (λ (q : Parts). signed q.negative m.size) same in
    rw (z_is, x.count_is) (parts_round p (10 ^ (places - 12)) m.size x.size differs
    (exact ∙ numerator_scaled p places h) x.nearest x.differs_is)

-- a start may be soft in a period by another number too
pub softer : (f : ℕ) (soft differs : Bool) (z count : ℤ) → (differs ≡ true → soft ≡ true) → RoundsTo f differs z count
    → RoundsTo f soft z count
softer f true true z count h r = r
softer f true false z count h r = rw r (omega (arith, signed_arith))
softer f false true z count h r = let e : false ≡ true = h refl in cc
softer f false false z count h r = r
