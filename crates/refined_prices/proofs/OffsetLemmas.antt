-- For the law of the score under tails by groups: the least of sums against the sum of the least, where offsets move
-- from one group to another what an intervention counts.
use Rattle.std.proofs.Common.{◌≡◌, ℕ, zero, suc, ◌*◌, ◌<◌, ◌≤◌, max, refl, arith, ℤ, pos, ◌+ℤ◌, ◌≤ℤ◌, Bool, true, false}
use Rattle.std.proofs.Common.{ltb}
use Rattle.std.proofs.Math.Nat.{mul-le-mul_left}
use Rattle.std.proofs.lemmas.Bool.Decides.{nat_tests}
use Rattle.fixed_num.specs.Sums.{sum_below}
use Rattle.fixed_num.proofs.SignedLemmas.{signed_arith}
use Rattle.fixed_num.proofs.SumLemmas.{sum_below_mono, sum_below-add}
use Rattle.instance_model.specs.Naturals.{count_sum}
use Rattle.lagrange_bound.proofs.ExLemmas.{sum_below-pos}
use Rattle.refined_prices.specs.Groups.{least_below, greatest_below}
use Rattle.refined_prices.proofs.GroupLemmas.{least_below_reached}

-- the greatest is at least each
pub le-greatest_below : (n : ℕ) (f : ℕ → ℕ) (k : ℕ) → k < n → f k ≤ greatest_below n f
unfolding greatest_below
le-greatest_below zero f k l = absurd (omega (arith, l))
le-greatest_below (suc n) f k l = at (ltb k n) refl (λ m. le-greatest_below n f k m)
  where
    at : (b : Bool) → ltb k n ≡ b → (k < n → f k ≤ greatest_below n f) → f k ≤ max (greatest_below n f) (f n)
    at true e ih = let w = ih (grind (arith, nat_tests)) in omega (arith, w)
    at false e ih = let m : k ≡ n = grind (arith, nat_tests) in rw m (omega arith)

-- ---- shares of which none is above a group's number with its offset: they add up to at most the least over the groups
-- of the sum of the numbers, and the greatest sum of offsets
pub shares-le : (m count c : ℕ) (share : ℕ → ℤ) (l : ℕ → ℕ → ℤ) (o : ℕ → ℕ → ℕ) → 0 < count
    → ((i g : ℕ) → i < m → g < count → share i ≤ℤ (l i g +ℤ pos (c * o i g)))
    → sum_below m share ≤ℤ (least_below count (λ g. sum_below m (λ i. l i g))
    +ℤ pos (c * greatest_below count (λ g. count_sum m (λ i. o i g))))
shares-le m count c share l o some h =
    let w = least_below_reached count (λ g. sum_below m (λ i. l i g)) some in
    let each = sum_below_mono m share (λ i. l i w.0 +ℤ pos (c * o i w.0)) (λ i b. h i w.0 b w.1) in
    let parts = sum_below-add m (λ i. l i w.0) (λ i. pos (c * o i w.0)) in
    let offsets = sum_below-pos c m (λ i. o i w.0) in
    let all = rw (parts, offsets) at each in
    let most = le-greatest_below count (λ g. count_sum m (λ i. o i g)) w.0 w.1 in
    rw w.2 (at (sum_below m share) (sum_below m (λ i. l i w.0)) (count_sum m (λ i. o i w.0))
    (greatest_below count (λ g. count_sum m (λ i. o i g))) all most)
  where
    at : (x y : ℤ) (a b : ℕ) → x ≤ℤ (y +ℤ pos (c * a)) → a ≤ b → x ≤ℤ (y +ℤ pos (c * b))
    at x y a b h k = omega (arith, signed_arith, h, mul-le-mul_left c k)
