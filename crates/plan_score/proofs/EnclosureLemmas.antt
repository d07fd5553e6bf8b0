-- Sums and quotients as the code has them, by their bits.
use Rattle.std.proofs.Common.{◌≡◌, ℕ, ◌+◌, ◌<◌, ◌≤◌, ◌^◌, ◌∙◌, refl, arith, ℤ, pos, neg_ℤ, ◌+ℤ◌, ◌-ℤ◌, unsigned_abs}
use Rattle.std.proofs.Common.{to_z}
use Rattle.std.specs.Int.{w128, int_max}
use Rattle.std.proofs.lemmas.Int.{to_z_pos}
use Rattle.fixed_num.specs.Floors.{floor_of, ceil_of, floor_quotient, ceil_quotient}
use Rattle.fixed_num.proofs.Bits.{by_bits}
use Rattle.fixed_num.proofs.FloorLemmas.{floor_size}
use Rattle.fixed_num.proofs.SignedLemmas.{back_from_abs, signed_arith}
use Rattle.fixed_num.proofs.SumLemmas.{added, abs-sum}

-- a quotient, rounded down and up
pub floor_is : (q v : ℤ) (n : ℕ) → n < 2 ^ 64 → unsigned_abs v ≤ 10 ^ 37
    → q ≡ floor_quotient (by_bits v) (to_z w128 n) → q ≡ floor_of v n
floor_is q v n few small e = e ∙ rw (back_from_abs v (omega (arith, small)), to_z_pos w128 n (omega (arith, few))) refl

pub ceil_is : (q v : ℤ) (n : ℕ) → n < 2 ^ 64 → unsigned_abs v ≤ 10 ^ 37
    → q ≡ ceil_quotient (by_bits v) (to_z w128 n) → q ≡ ceil_of v n
ceil_is q v n few small e = e ∙ rw (back_from_abs v (omega (arith, small)), to_z_pos w128 n (omega (arith, few))) refl

-- a sum of two numbers
pub sum_is : (s r : ℤ) → unsigned_abs s ≤ 10 ^ 37 → unsigned_abs r ≤ 10 ^ 37 → by_bits (by_bits s +ℤ by_bits r) ≡ s +ℤ r
sum_is s r h k = rw (back_from_abs s (omega (arith, h))) (added s r (10 ^ 37) (10 ^ 37) h k (omega arith))

pub sum_small : (s r : ℤ) → unsigned_abs s ≤ 10 ^ 37 → unsigned_abs r ≤ 10 ^ 33
    → unsigned_abs (by_bits (by_bits s +ℤ by_bits r)) ≤ unsigned_abs s + 10 ^ 33
sum_small s r h k = rw (sum_is s r h (omega (arith, k))) (omega (arith, abs-sum s r, k))

pub floor_no_larger : (q a : ℤ) (k : ℕ) → 1 ≤ k → q ≡ floor_of a k → unsigned_abs q ≤ unsigned_abs a
floor_no_larger q a k h e = rw e (floor_size a k h)

pub ceil_no_larger : (q a : ℤ) (k : ℕ) → 1 ≤ k → q ≡ ceil_of a k → unsigned_abs q ≤ unsigned_abs a
ceil_no_larger q a k h e = rw e (omega (arith, signed_arith, floor_size (neg_ℤ a) k h))

-- a number less, and more, by a natural number
pub difference_is : (q : ℤ) (m : ℕ) → unsigned_abs q ≤ 10 ^ 37 → m ≤ 10 ^ 16
    → by_bits (by_bits q -ℤ to_z w128 m) ≡ q -ℤ pos m
difference_is q m h k = rw (back_from_abs q (omega (arith, h)), to_z_pos w128 m (omega (arith, k)))
    (back_from_abs (q -ℤ pos m) (omega (arith, signed_arith, h, k)))

pub raised_is : (q : ℤ) (m : ℕ) → unsigned_abs q ≤ 10 ^ 37 → m ≤ 10 ^ 16
    → by_bits (by_bits q +ℤ to_z w128 m) ≡ q +ℤ pos m
raised_is q m h k = rw (back_from_abs q (omega (arith, h)), to_z_pos w128 m (omega (arith, k)))
    (back_from_abs (q +ℤ pos m) (omega (arith, signed_arith, h, k)))

pub above_zero_small : (r q : ℤ) (m : ℕ) → r ≡ int_max (pos 0) (q -ℤ pos m) → unsigned_abs q ≤ 10 ^ 32 → m ≤ 1024
    → unsigned_abs r ≤ 10 ^ 33
above_zero_small r q m e h k = rw e (omega (arith, signed_arith, h, k))

pub raised_small : (q : ℤ) (m : ℕ) → unsigned_abs q ≤ 10 ^ 32 → m ≤ 1024 → unsigned_abs (q +ℤ pos m) ≤ 10 ^ 33
raised_small q m h k = omega (arith, signed_arith, h, k)

-- a number within 10^36, less and more by a margin, is within 10^37
pub lowered_within : (z : ℤ) (m : ℕ) → unsigned_abs z ≤ 10 ^ 36 → m ≤ 10 ^ 16 → unsigned_abs (z -ℤ pos m) ≤ 10 ^ 37
lowered_within z m h k = omega (arith, signed_arith, h, k)

pub raised_within : (z : ℤ) (m : ℕ) → unsigned_abs z ≤ 10 ^ 36 → m ≤ 10 ^ 16 → unsigned_abs (z +ℤ pos m) ≤ 10 ^ 37
raised_within z m h k = omega (arith, signed_arith, h, k)

-- the quotient that the code takes of a number less, and more, by a margin
pub share_low_is : (q z : ℤ) (m by : ℕ) → unsigned_abs z ≤ 10 ^ 36 → m ≤ 10 ^ 16 → by < 2 ^ 64 → 1 ≤ by
    → q ≡ floor_quotient (by_bits (by_bits z -ℤ to_z w128 m)) (to_z w128 by) → (by_bits q ≡ floor_of (z -ℤ pos m) by)
    × (unsigned_abs (by_bits q) ≤ 10 ^ 37)
share_low_is q z m by h k few some e =
    let d = difference_is z m (omega (arith, h)) k in
    let w = lowered_within z m h k in
    let e' : q ≡ floor_of (z -ℤ pos m) by = rw (d, to_z_pos w128 by (omega (arith, few))) at e in
    let n' : unsigned_abs q ≤ 10 ^ 37 = omega (arith, floor_no_larger q (z -ℤ pos m) by some e', w) in
    let b = back_from_abs q (omega (arith, n')) in
    (b ∙ e', rw b n')

pub share_high_is : (q z : ℤ) (m by : ℕ) → unsigned_abs z ≤ 10 ^ 36 → m ≤ 10 ^ 16 → by < 2 ^ 64 → 1 ≤ by
    → q ≡ ceil_quotient (by_bits (by_bits z +ℤ to_z w128 m)) (to_z w128 by) → (by_bits q ≡ ceil_of (z +ℤ pos m) by)
    × (unsigned_abs (by_bits q) ≤ 10 ^ 37)
share_high_is q z m by h k few some e =
    let d = raised_is z m (omega (arith, h)) k in
    let w = raised_within z m h k in
    let e' : q ≡ ceil_of (z +ℤ pos m) by = rw (d, to_z_pos w128 by (omega (arith, few))) at e in
    let n' : unsigned_abs q ≤ 10 ^ 37 = omega (arith, ceil_no_larger q (z +ℤ pos m) by some e', w) in
    let b = back_from_abs q (omega (arith, n')) in
    (b ∙ e', rw b n')
