-- For the law of the score: the fraction of a term, over a sum of interventions, and against the score of one period.
use Rattle.std.proofs.Common.{◌≡◌, ℕ, zero, suc, ◌+◌, ◌-◌, ◌*◌, ◌<◌, ◌≤◌, refl, sym, ◌∙◌, ap, subst, arith, ℤ, pos}
use Rattle.std.proofs.Common.{◌+ℤ◌, ◌-ℤ◌, ◌*ℤ◌, ◌≤ℤ◌, List, [], ◌∷◌, length, Contains, Option, Some, None}
use Rattle.std.specs.Int.{int_max}
use Rattle.std.proofs.Math.Nat.{mul-le-mul_left, mul_comm}
use Rattle.std.proofs.lemmas.Int.{by_lt_z, int_max_is}
use borrow.Author.Differences.{up, down, same_in, below_in, at_most_in, lt_out, le_out, product_is, sum_is_lem}
use Rattle.fixed_num.specs.Floors.{floor_of}
use Rattle.fixed_num.specs.Sums.{sum_below, list_of, total}
use Rattle.fixed_num.specs.Rank.{mth_smallest}
use Rattle.fixed_num.proofs.SignedLemmas.{signed_arith, int_div_euclid-parts}
use Rattle.fixed_num.proofs.FloorLemmas.{floor_of_unique}
use Rattle.fixed_num.proofs.SumLemmas.{sum_below_same, sum_below-swap, sum_below-none, sum_below-zero, sum_below-suc}
use Rattle.fixed_num.proofs.SumLemmas.{*ℤ-+ℤ, total-list_of, length-list_of}
use Rattle.instance_model.specs.Values.{excess_in, numerator_in}
use Rattle.instance_model.proofs.DeviationLemmas.{scale_mono}
use Rattle.lagrange_bound.specs.declared.tail.Tail.{Tail}
use Rattle.lagrange_bound.specs.Least.{least_over, AscendAbove}
use Rattle.lagrange_bound.specs.Bases.{tail_part, weighed}
use Rattle.lagrange_bound.specs.TailLemmas.{least_over_reached, least_over-sum_below, least_over-le-mth_smallest}

-- a tail for n numbers, of which the quantile has this rank
pub record IsTailOf (n rank : ℕ) (tail : Tail) : Type 0 where
  pub weight : tail.weight ≤ 1000
  pub enough : n + 1 ≤ length tail.places + rank
  pub ascend : AscendAbove 0 tail.places
  pub within : (k : ℕ) → Contains tail.places k → k ≤ n

-- a quotient of which both parts are multiplied
pub floor_of_scaled : (c : ℕ) (a : ℤ) (k : ℕ) → 0 < c → 0 < k → floor_of (pos c *ℤ a) (c * k) ≡ floor_of a k
floor_of_scaled c a k hc hk =
    let f = floor_of a k in
    let p = int_div_euclid-parts a k hk in
    let lower = mul-le-mul_left c p.0 in
    let upper = mul-le-mul_left c (next (down f * k + up a) (up f * k + down a + k) p.1) in
    let ca = product_is (pos c) a in
    let fk = product_is f (pos (c * k)) in
    sym (floor_of_unique (pos c *ℤ a) f (c * k) (some c k hc hk)
    (at_most_in (f *ℤ pos (c * k)) (pos c *ℤ a) (omega (arith, fk, ca, lower)))
    (below_in (pos c *ℤ a) (f *ℤ pos (c * k) +ℤ pos (c * k))
    (omega (arith, fk, ca, upper, sum_is_lem (f *ℤ pos (c * k)) (pos (c * k)), hc))))
  where
    next : (a b : ℕ) → a < b → a + 1 ≤ b
    next a b h = omega arith

    some : (c k : ℕ) → 0 < c → 0 < k → 0 < c * k
    some c k h l = omega (arith, mul-le-mul_left c (next 0 k l))

-- ---- a * x + d * (b * (n * y - x)), which is linear in x and y
linear : ℕ → ℕ → ℕ → ℕ → ℤ → ℤ → ℤ
linear a d b n x y = (pos a *ℤ x) +ℤ (pos d *ℤ (pos b *ℤ (pos n *ℤ y -ℤ x)))

linear-add : (a d b n : ℕ) (x y z w : ℤ) → linear a d b n (x +ℤ z) (y +ℤ w) ≡ linear a d b n x y +ℤ linear a d b n z w
unfolding linear
linear-add a d b n x y z w =
    let inner : pos n *ℤ (y +ℤ w) -ℤ (x +ℤ z) ≡ (pos n *ℤ y -ℤ x) +ℤ (pos n *ℤ w -ℤ z) =
    ap (λ (t : ℤ). t -ℤ (x +ℤ z)) (*ℤ-+ℤ (pos n) y w) ∙ regroup_less (pos n *ℤ y) (pos n *ℤ w) x z in
    let middle : pos b *ℤ (pos n *ℤ (y +ℤ w) -ℤ (x +ℤ z)) ≡ pos b *ℤ (pos n *ℤ y -ℤ x) +ℤ pos b *ℤ (pos n *ℤ w -ℤ z) =
    ap (λ (t : ℤ). pos b *ℤ t) inner ∙ *ℤ-+ℤ (pos b) (pos n *ℤ y -ℤ x) (pos n *ℤ w -ℤ z) in
    let outer : pos d *ℤ (pos b *ℤ (pos n *ℤ (y +ℤ w) -ℤ (x +ℤ z))) ≡ pos d *ℤ (pos b
    *ℤ (pos n *ℤ y -ℤ x)) +ℤ pos d *ℤ (pos b *ℤ (pos n *ℤ w -ℤ z)) =
    ap (λ (t : ℤ). pos d *ℤ t) middle ∙ *ℤ-+ℤ (pos d) (pos b *ℤ (pos n *ℤ y -ℤ x)) (pos b *ℤ (pos n *ℤ w -ℤ z)) in
    ap (λ (t : ℤ). (pos a *ℤ (x +ℤ z)) +ℤ t) outer
    ∙ ap (λ (t : ℤ). t +ℤ ((pos d *ℤ (pos b *ℤ (pos n *ℤ y -ℤ x))) +ℤ (pos d *ℤ (pos b *ℤ (pos n *ℤ w -ℤ z)))))
    (*ℤ-+ℤ (pos a) x z) ∙ regroup (pos a *ℤ x) (pos a *ℤ z) (pos d *ℤ (pos b *ℤ (pos n *ℤ y -ℤ x))) (pos d
    *ℤ (pos b *ℤ (pos n *ℤ w -ℤ z)))
  where
    regroup_less : (p q x z : ℤ) → (p +ℤ q) -ℤ (x +ℤ z) ≡ (p -ℤ x) +ℤ (q -ℤ z)
    regroup_less p q x z = omega (arith, signed_arith)

    regroup : (p q x z : ℤ) → (p +ℤ q) +ℤ (x +ℤ z) ≡ (p +ℤ x) +ℤ (q +ℤ z)
    regroup p q x z = omega (arith, signed_arith)

linear-zero : (a d b n : ℕ) → linear a d b n (pos 0) (pos 0) ≡ pos 0
unfolding linear
linear-zero a d b n = omega (arith, signed_arith)

linear-sum : (a d b n m : ℕ) (x y : ℕ → ℤ) → sum_below m (λ i. linear a d b n (x i) (y i))
    ≡ linear a d b n (sum_below m x) (sum_below m y)
linear-sum a d b n zero x y = rw (sum_below-zero x, sum_below-zero y, sum_below-zero (λ i. linear a d b n (x i) (y i)))
    (sym (linear-zero a d b n))
linear-sum a d b n (suc m) x y =
    rw (
      sum_below-suc m x,
      sum_below-suc m y,
      sum_below-suc m (λ i. linear a d b n (x i) (y i)),
      linear-sum a d b n m x y,
    ) (sym (linear-add a d b n (sum_below m x) (sum_below m y) (x m) (y m)))

linear-mono : (a d b n : ℕ) (x y z : ℤ) → y ≤ℤ z → linear a d b n x y ≤ℤ linear a d b n x z
unfolding linear
linear-mono a d b n x y z h =
    let one = scale_mono n y z h in
    let two : (pos n *ℤ y -ℤ x) ≤ℤ (pos n *ℤ z -ℤ x) = omega (arith, signed_arith) in
    let three = scale_mono b (pos n *ℤ y -ℤ x) (pos n *ℤ z -ℤ x) two in
    let four = scale_mono d (pos b *ℤ (pos n *ℤ y -ℤ x)) (pos b *ℤ (pos n *ℤ z -ℤ x)) three in
    omega (arith, signed_arith)

-- ---- over a sum of interventions

-- the weight of a tail, and 0 where there is none
weight_of : Option Tail → ℕ
weight_of None = 0
weight_of (Some tail) = tail.weight

-- the least over the places of a tail, and 0 where there is none
lowest_of : (ℕ → ℤ) → Option Tail → ℤ
lowest_of f None = pos 0
lowest_of f (Some tail) = least_over f tail.places

weighed_is : (alpha n : ℕ) (f : ℕ → ℤ) (tail : Option Tail) → weighed alpha n f tail ≡ linear (1000 * alpha) (1_000_000
    - alpha) (weight_of tail) n (sum_below n (λ k. f (k + 1))) (lowest_of f tail)
unfolding weighed tail_part linear weight_of lowest_of
weighed_is alpha n f None = ap (λ (t : ℤ). (pos (1000 * alpha) *ℤ sum_below n (λ k. f (k + 1)))
    +ℤ (pos (1_000_000 - alpha) *ℤ t)) (sym (none_of (pos n *ℤ pos 0 -ℤ sum_below n (λ k. f (k + 1)))))
  where
    none_of : (z : ℤ) → pos 0 *ℤ z ≡ pos 0
    none_of z = same_in (pos 0 *ℤ z) (pos 0) (omega (arith, product_is (pos 0) z))
weighed_is alpha n f (Some tail) = refl

lowest-sum : (m : ℕ) (f : ℕ → ℕ → ℤ) (tail : Option Tail) → ((t : Tail) → tail ≡ Some t → 0 < length t.places)
    → sum_below m (λ i. lowest_of (f i) tail) ≤ℤ lowest_of (λ k. sum_below m (λ i. f i k)) tail
unfolding lowest_of
lowest-sum m f None some = rw (sum_below-none m) (omega (arith, signed_arith))
lowest-sum m f (Some tail) some = least_over-sum_below m f tail.places (some tail refl)

-- the fractions of m interventions add up to at most that of their sums
pub weighed-sum : (alpha n m : ℕ) (f : ℕ → ℕ → ℤ) (tail : Option Tail)
    → ((t : Tail) → tail ≡ Some t → 0 < length t.places) → sum_below m (λ i. weighed alpha n (f i) tail)
    ≤ℤ weighed alpha n (λ k. sum_below m (λ i. f i k)) tail
weighed-sum alpha n m f tail some =
    let a = 1000 * alpha in
    let d = 1_000_000 - alpha in
    let b = weight_of tail in
    let x : ℕ → ℤ = λ i. sum_below n (λ k. f i (k + 1)) in
    let y : ℕ → ℤ = λ i. lowest_of (f i) tail in
    let sums = sum_below n (λ k. sum_below m (λ i. f i (k + 1))) in
    let whole = weighed alpha n (λ k. sum_below m (λ i. f i k)) tail in
    let each = sum_below_same m (λ i. weighed alpha n (f i) tail)
    (λ i. linear (1000 * alpha) (1_000_000 - alpha) (weight_of tail) n (sum_below n (λ k. f i (k + 1)))
    (lowest_of (f i) tail)) (λ i l. weighed_is alpha n (f i) tail) in
    let added = each ∙ linear-sum a d b n m x y ∙ ap (λ (t : ℤ). linear (1000 * alpha) (1_000_000 - alpha)
    (weight_of tail) n t (sum_below m (λ i. lowest_of (f i) tail))) (sum_below-swap m n (λ i k. f i (k + 1))) in
    let less = linear-mono a d b n sums (sum_below m y) (lowest_of (λ k. sum_below m (λ i. f i k)) tail)
    (lowest-sum m f tail some) in
    let less' = subst
    (λ (t : ℤ).
    linear (1000 * alpha) (1_000_000 - alpha) (weight_of tail) n (sum_below n (λ k. sum_below m (λ i. f i (k + 1))))
    (sum_below m (λ i. lowest_of (f i) tail)) ≤ℤ t)
    (sym (weighed_is alpha n (λ k. sum_below m (λ i. f i k)) tail)) less in
    subst (λ (t : ℤ). t ≤ℤ weighed alpha n (λ k. sum_below m (λ i. f i k)) tail) (sym added) less'

-- ---- against the score of one period

-- a weight of at most 1000 thousandths
pub below_excess : (b : ℕ) (v : ℤ) → b ≤ 1000 → (pos b *ℤ v) ≤ℤ (pos 1000 *ℤ int_max (pos 0) v)
below_excess b v h =
    by_lt_z v (pos 0)
    (λ l. let o = lt_out v (pos 0) l in
    let e : int_max (pos 0) v ≡ pos 0 = same_in (int_max (pos 0) v) (pos 0) (omega (arith, int_max_is (pos 0) v, o)) in
    let m = mul-le-mul_left b (weaken (up v) (down v) (omega (arith, o))) in
    rw e (at_most_in (pos b *ℤ v) (pos 1000 *ℤ pos 0)
    (omega (arith, product_is (pos b) v, product_is (pos 1000) (pos 0), m))))
    (λ l. let o = le_out (pos 0) v l in
    let e : int_max (pos 0) v ≡ v = same_in (int_max (pos 0) v) v (omega (arith, int_max_is (pos 0) v, o)) in
    let m = mul_gap b 1000 (down v) (up v) h (omega (arith, o)) in
    rw e (at_most_in (pos b *ℤ v) (pos 1000 *ℤ v) (omega (arith, product_is (pos b) v, product_is (pos 1000) v, m))))
  where
    weaken : (a b : ℕ) → a < b → a ≤ b
    weaken a b h = omega arith

    mul_gap : (b c x y : ℕ) → b ≤ c → x ≤ y → b * y + c * x ≤ c * y + b * x
    mul_gap b c x y h l =
        let p = mul-le-mul_left (c - b) l in
        let q : b + (c - b) ≡ c = omega arith in
        let r : (b + (c - b)) * y ≡ c * y = ap (λ (t : ℕ). t * y) q in
        let s : (b + (c - b)) * x ≡ c * x = ap (λ (t : ℕ). t * x) q in
        omega (arith, p, r, s)

-- products of natural numbers with a whole number, in another order
pub scale-scale : (a b : ℕ) (z : ℤ) → pos (a * b) *ℤ z ≡ pos a *ℤ (pos b *ℤ z)
scale-scale a b z =
    let p = product_is (pos b) z in
    let u = ap (λ (t : ℕ). a * t) p.0 in
    let v = ap (λ (t : ℕ). a * t) p.1 in
    same_in (pos (a * b) *ℤ z) (pos a *ℤ (pos b *ℤ z))
    (omega (arith, product_is (pos (a * b)) z, product_is (pos a) (pos b *ℤ z), u, v))

pub scale-swap : (a b : ℕ) (z : ℤ) → pos a *ℤ (pos b *ℤ z) ≡ pos b *ℤ (pos a *ℤ z)
scale-swap a b z = sym (scale-scale a b z) ∙ ap (λ (t : ℕ). pos t *ℤ z) (mul_comm a b) ∙ scale-scale b a z

pub thousand_times : (a d : ℕ) (s x e : ℤ) → x ≤ℤ (pos 1000 *ℤ e)
    → ((pos (1000 * a) *ℤ s) +ℤ (pos d *ℤ x)) ≤ℤ (pos 1000 *ℤ ((pos a *ℤ s) +ℤ (pos d *ℤ e)))
thousand_times a d s x e h =
    let m = scale_mono d x (pos 1000 *ℤ e) h in
    let l : ((pos (1000 * a) *ℤ s) +ℤ (pos d *ℤ x)) ≤ℤ ((pos (1000 * a) *ℤ s) +ℤ (pos d *ℤ (pos 1000 *ℤ e))) =
    omega (arith, signed_arith) in
    rw (*ℤ-+ℤ (pos 1000) (pos a *ℤ s) (pos d *ℤ e), ← scale-scale 1000 a s, scale-swap 1000 d e) l

-- a tail's part is at most 1000 times the excess
tail_part-le : (n rank : ℕ) (f : ℕ → ℤ) (tail : Option Tail) → 1 ≤ rank → rank ≤ n
    → ((t : Tail) → tail ≡ Some t → IsTailOf n rank t)
    → tail_part n f tail ≤ℤ (pos 1000 *ℤ excess_in rank (list_of n (λ k. f (k + 1))))
unfolding tail_part excess_in
tail_part-le n rank f None one few ok = not_negative
    (pos (length (list_of n (λ k. f (k + 1)))) *ℤ mth_smallest rank (list_of n (λ k. f (k + 1)))
    -ℤ total (list_of n (λ k. f (k + 1))))
  where
    not_negative : (v : ℤ) → pos 0 ≤ℤ (pos 1000 *ℤ int_max (pos 0) v)
    not_negative v = at_most_in (pos 0) (pos 1000 *ℤ int_max (pos 0) v)
        (omega (arith, product_is (pos 1000) (int_max (pos 0) v), int_max_is (pos 0) v))
tail_part-le n rank f (Some tail) one few ok =
    let w = ok tail refl in
    let s = sum_below n (λ k. f (k + 1)) in
    let q = mth_smallest rank (list_of n (λ k. f (k + 1))) in
    let l = least_over-le-mth_smallest n rank f tail.places one few w.enough w.ascend w.within in
    let m = scale_mono n (least_over f tail.places) q l in
    let d : (pos n *ℤ least_over f tail.places -ℤ s) ≤ℤ (pos n *ℤ q -ℤ s) = omega (arith, signed_arith) in
    let u = scale_mono tail.weight (pos n *ℤ least_over f tail.places -ℤ s) (pos n *ℤ q -ℤ s) d in
    let v = below_excess tail.weight (pos n *ℤ q -ℤ s) w.weight in
    rw (total-list_of n (λ k. f (k + 1)), length-list_of n (λ k. f (k + 1)))
    (trans (pos tail.weight *ℤ (pos n *ℤ least_over f tail.places -ℤ s)) (pos tail.weight *ℤ (pos n *ℤ q -ℤ s))
    (pos 1000 *ℤ int_max (pos 0) (pos n *ℤ q -ℤ s)) u v)
  where
    trans : (a b c : ℤ) → a ≤ℤ b → b ≤ℤ c → a ≤ℤ c
    trans a b c h k = omega (arith, signed_arith)

-- the fraction is at most 1000 times that of the score
pub weighed-le : (alpha n rank : ℕ) (f : ℕ → ℤ) (tail : Option Tail) → 1 ≤ rank → rank ≤ n
    → ((t : Tail) → tail ≡ Some t → IsTailOf n rank t)
    → weighed alpha n f tail ≤ℤ (pos 1000 *ℤ numerator_in alpha rank (list_of n (λ k. f (k + 1))))
unfolding weighed numerator_in
weighed-le alpha n rank f tail one few ok =
    rw (total-list_of n (λ k. f (k + 1))) (thousand_times alpha (1_000_000 - alpha) (sum_below n (λ k. f (k + 1)))
    (tail_part n f tail) (excess_in rank (list_of n (λ k. f (k + 1)))) (tail_part-le n rank f tail one few ok))

-- ---- without risks
least_of_none : (ks : List ℕ) → least_over (λ k. pos 0) ks ≡ pos 0
unfolding least_over
least_of_none [] = refl
least_of_none (k ∷ ks) = (least_over_reached (λ k. pos 0) (k ∷ ks) (omega arith)).2

lowest_of_none : (tail : Option Tail) → lowest_of (λ k. pos 0) tail ≡ pos 0
unfolding lowest_of
lowest_of_none None = refl
lowest_of_none (Some tail) = least_of_none tail.places

pub weighed_of_none : (alpha n : ℕ) (tail : Option Tail) → weighed alpha n (λ k. pos 0) tail ≡ pos 0
weighed_of_none alpha n tail = weighed_is alpha n (λ k. pos 0) tail
    ∙ rw (sum_below-none n, lowest_of_none tail) (linear-zero (1000 * alpha) (1_000_000 - alpha) (weight_of tail) n)
