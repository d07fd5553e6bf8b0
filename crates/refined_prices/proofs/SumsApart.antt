-- Differences of sums, and sums by intervention against sums by place.
use Rattle.std.proofs.Common.{◌≡◌, ℕ, zero, suc, ◌<◌, sym, ◌∙◌, subst, arith, ℤ, pos, ◌+ℤ◌, ◌-ℤ◌, ◌≤ℤ◌}
use Rattle.fixed_num.specs.Sums.{sum_below}
use Rattle.fixed_num.proofs.SignedLemmas.{signed_arith}
use Rattle.fixed_num.proofs.SumLemmas.{sum_below-zero, sum_below-suc, sum_below_same, sum_below_mono, sum_below-add}
use Rattle.fixed_num.proofs.SumLemmas.{sum_below-none, sum_below-swap}

-- a sum of differences
pub sum_below-less : (n : ℕ) (f g : ℕ → ℤ) → sum_below n (λ k. f k -ℤ g k) ≡ sum_below n f -ℤ sum_below n g
sum_below-less zero f g = rw (sum_below-zero f, sum_below-zero g, sum_below-zero (λ k. f k -ℤ g k)) (omega (
  arith,
  signed_arith,
))
sum_below-less (suc n) f g =
    let ih = sum_below-less n f g in
    rw (sum_below-suc n f, sum_below-suc n g, sum_below-suc n (λ k. f k -ℤ g k), ih) (omega (arith, signed_arith))

-- pairs of terms that add up to nothing or less do so all together
pub sum_below-nothing : (n : ℕ) (f g : ℕ → ℤ) → ((k : ℕ) → k < n → (f k +ℤ g k) ≤ℤ pos 0)
    → (sum_below n f +ℤ sum_below n g) ≤ℤ pos 0
sum_below-nothing n f g h =
    let each = sum_below_mono n (λ k. f k +ℤ g k) (λ k. pos 0) h in
    subst (λ (z : ℤ). z ≤ℤ pos 0) (sum_below-add n f g)
    (subst (λ (z : ℤ). sum_below n (λ k. f k +ℤ g k) ≤ℤ z) (sum_below-none n) each)

-- n interventions, r resources, p periods: where what all interventions add at a place, and the constant of the place,
-- come to nothing or less at each place, so they do all together
pub places-nothing : (n r p : ℕ) (share : ℕ → ℕ → ℕ → ℤ) (constant : ℕ → ℕ → ℤ)
    → ((c t : ℕ) → c < r → t < p → (sum_below n (λ i. share i c t) +ℤ constant c t) ≤ℤ pos 0)
    → (sum_below n (λ i. sum_below r (λ c. sum_below p (share i c)))
    +ℤ sum_below r (λ c. sum_below p (constant c))) ≤ℤ pos 0
places-nothing n r p share constant h =
    let by_resource = sum_below-swap n r (λ i c. sum_below p (share i c)) in
    let by_place = sum_below_same r (λ c. sum_below n (λ i. sum_below p (share i c)))
    (λ c. sum_below p (λ t. sum_below n (λ i. share i c t))) (λ c l. sum_below-swap n p (λ i t. share i c t)) in
    subst (λ (z : ℤ). (z +ℤ sum_below r (λ c. sum_below p (constant c))) ≤ℤ pos 0) (sym (by_resource ∙ by_place))
    (sum_below-nothing r (λ c. sum_below p (λ t. sum_below n (λ i. share i c t))) (λ c. sum_below p (constant c))
    (λ c l. sum_below-nothing p (λ t. sum_below n (λ i. share i c t)) (constant c) (λ t m. h c t l m)))
