-- Weak duality, over plain sums.
use Rattle.std.proofs.Common.{◌≡◌, ℕ, ◌+◌, ◌*◌, ◌<◌, ◌≤◌, sym, ◌∙◌, ap, subst, arith, ℤ, pos, ◌+ℤ◌, ◌-ℤ◌, ◌*ℤ◌, ◌≤ℤ◌}
use Rattle.std.proofs.Math.Nat.{mul-le-mul_left}
use borrow.Author.Differences.{up, down, same_in, product_is}
use Rattle.fixed_num.specs.Sums.{sum_below}
use Rattle.fixed_num.proofs.SignedLemmas.{signed_arith}
use Rattle.fixed_num.proofs.SumLemmas.{sum_below_mono, sum_below_same, sum_below-add, sum_below-scale, sum_below-swap}
use Rattle.fixed_num.proofs.SumLemmas.{sum_below-none}
use Rattle.instance_model.specs.Naturals.{count_sum}
use Rattle.instance_model.proofs.DeviationLemmas.{scale_mono}
use Rattle.lagrange_bound.proofs.ExLemmas.{sum_below-pos}

-- what the prices u and v on the limits of a load within them add: never more than nothing
pub band_le : (u v : ℕ) (load lower upper : ℤ) → lower ≤ℤ load → load ≤ℤ upper
    → ((pos u -ℤ pos v) *ℤ load +ℤ (pos v *ℤ lower -ℤ pos u *ℤ upper)) ≤ℤ pos 0
band_le u v load lower upper h k =
    let p = scale_mono u load upper k in
    let q = scale_mono v lower load h in
    let e = less u v load in
    rw e (omega (arith, signed_arith))
  where
    less : (u v : ℕ) (z : ℤ) → (pos u -ℤ pos v) *ℤ z ≡ pos u *ℤ z -ℤ pos v *ℤ z
    less u v z =
        let s : up (pos u -ℤ pos v) + v ≡ down (pos u -ℤ pos v) + u = omega (arith, signed_arith) in
        let a = ap (λ (t : ℕ). t * up z) s in
        let b = ap (λ (t : ℕ). t * down z) s in
        let x = product_is (pos u -ℤ pos v) z in
        let y = product_is (pos u) z in
        let w = product_is (pos v) z in
        same_in ((pos u -ℤ pos v) *ℤ z) (pos u *ℤ z -ℤ pos v *ℤ z)
        (omega (arith, a, b, x, y, w, difference (pos u *ℤ z) (pos v *ℤ z)))
      where
        difference : (a b : ℤ) → up (a -ℤ b) + down a + up b ≡ down (a -ℤ b) + up a + down b
        difference a b = omega (arith, signed_arith)

-- what the prices of all limits of one resource add over the periods
pub bands_le : (p : ℕ) (u v : ℕ → ℕ) (load lower upper : ℕ → ℤ)
    → ((t : ℕ) → t < p → (lower t ≤ℤ load t) × (load t ≤ℤ upper t))
    → (sum_below p (λ t. (pos (u t) -ℤ pos (v t)) *ℤ load t)
    +ℤ sum_below p (λ t. (pos (v t) *ℤ lower t) -ℤ (pos (u t) *ℤ upper t))) ≤ℤ pos 0
bands_le p u v load lower upper within =
    let share : ℕ → ℤ = λ t. (pos (u t) -ℤ pos (v t)) *ℤ load t in
    let limit : ℕ → ℤ = λ t. (pos (v t) *ℤ lower t) -ℤ (pos (u t) *ℤ upper t) in
    let each = sum_below_mono p (λ t. share t +ℤ limit t) (λ t. pos 0)
    (λ t l. band_le (u t) (v t) (load t) (lower t) (upper t) (within t l).0 (within t l).1) in
    subst (λ (z : ℤ). z ≤ℤ pos 0) (sum_below-add p share limit)
    (subst (λ (z : ℤ). sum_below p (λ t. share t +ℤ limit t) ≤ℤ z) (sum_below-none p) each)

-- n interventions, r resources, p periods, prices u and v on limits, a load of each, and what exclusions add, k a piece
pub duality : (n r p k : ℕ) (base least : ℕ → ℤ) (ex : ℕ → ℕ) (total : ℕ) (load : ℕ → ℕ → ℕ → ℤ) (u v : ℕ → ℕ → ℕ)
    (lower upper : ℕ → ℕ → ℤ) (value : ℤ)
    → sum_below n base ≤ℤ value
    → ((i : ℕ) → i < n
    → least i
    ≤ℤ ((base i +ℤ sum_below r (λ c. sum_below p (λ t. (pos (u c t) -ℤ pos (v c t)) *ℤ load i c t)))
    +ℤ pos (k * ex i)))
    → count_sum n ex ≤ total
    → ((c t : ℕ) → c < r → t < p → (lower c t ≤ℤ sum_below n (λ i. load i c t))
    × (sum_below n (λ i. load i c t) ≤ℤ upper c t))
    → (sum_below n least
    +ℤ (sum_below r (λ c. sum_below p (λ t. (pos (v c t) *ℤ lower c t) -ℤ (pos (u c t) *ℤ upper c t)))
    -ℤ pos (k * total))) ≤ℤ value
duality n r p k base least ex total load u v lower upper value law prices few bands =
    let net : ℕ → ℕ → ℤ = λ c t. pos (u c t) -ℤ pos (v c t) in
    let price : ℕ → ℤ = λ i. sum_below r (λ c. sum_below p (λ t. (pos (u c t) -ℤ pos (v c t)) *ℤ load i c t)) in
    let shares : ℕ → ℤ = λ c. sum_below p (λ t. (pos (u c t) -ℤ pos (v c t)) *ℤ sum_below n (λ i. load i c t)) in
    let limits : ℕ → ℤ = λ c. sum_below p (λ t. (pos (v c t) *ℤ lower c t) -ℤ (pos (u c t) *ℤ upper c t)) in
    let each = sum_below_mono n least (λ i. (base i +ℤ price i) +ℤ pos (k * ex i)) prices in
    let apart = sum_below-add n (λ i. base i +ℤ price i) (λ i. pos (k * ex i)) in
    let bases = sum_below-add n base price in
    let by_resource = sum_below-swap n r (λ i c. sum_below p (λ t. net c t *ℤ load i c t)) in
    let by_period : (c : ℕ) → sum_below n (λ i. sum_below p (λ t. net c t *ℤ load i c t)) ≡ shares c = λ c.
    sum_below-swap n p (λ i t. net c t *ℤ load i c t)
    ∙ sum_below_same p (λ t. sum_below n (λ i. net c t *ℤ load i c t)) (λ t. net c t *ℤ sum_below n (λ i. load i c t))
    (λ t m. sum_below-scale n (net c t) (λ i. load i c t)) in
    let all = sum_below_same r (λ c. sum_below n (λ i. sum_below p (λ t. net c t *ℤ load i c t))) shares
    (λ c l. by_period c) in
    let none = sum_below_mono r (λ c. shares c +ℤ limits c) (λ c. pos 0)
    (λ c l. bands_le p (u c) (v c) (λ t. sum_below n (λ i. load i c t)) (lower c) (upper c) (λ t m. bands c t l m)) in
    let within = subst (λ (z : ℤ). z ≤ℤ pos 0) (sum_below-add r shares limits)
    (subst (λ (z : ℤ). sum_below r (λ c. shares c +ℤ limits c) ≤ℤ z) (sum_below-none r) none) in
    let pieces = sum_below-pos k n ex in
    finish (sum_below n least) (sum_below n base) (sum_below n price) (sum_below r shares) (sum_below r limits)
    (sum_below n (λ i. pos (k * ex i))) (k * count_sum n ex) (k * total) value
    (subst (λ (z : ℤ). sum_below n least ≤ℤ z)
    (apart ∙ ap (λ (z : ℤ). z +ℤ sum_below n (λ i. pos (k * ex i))) bases) each) (by_resource ∙ all) within pieces
    (mul-le-mul_left k few) law
  where
    finish : (x b a a' r e : ℤ) (c total : ℕ) (w : ℤ) → x ≤ℤ ((b +ℤ a) +ℤ e) → a ≡ a' → (a' +ℤ r) ≤ℤ pos 0 → e ≡ pos c
        → c ≤ total → b ≤ℤ w → (x +ℤ (r -ℤ pos total)) ≤ℤ w
    finish x b a a' r e c total w h q g f few l =
        let h' = subst (λ (z : ℤ). x ≤ℤ ((b +ℤ a) +ℤ z)) f h in
        let g' = subst (λ (z : ℤ). (z +ℤ r) ≤ℤ pos 0) (sym q) g in
        omega (arith, signed_arith)
