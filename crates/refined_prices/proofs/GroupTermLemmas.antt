-- For the law of the score under tails by groups: the fractions of one period, over a sum of interventions, against the
-- score of the period.
use Rattle.std.proofs.Common.{◌≡◌, ℕ, zero, suc, ◌+◌, ◌-◌, ◌*◌, ◌<◌, ◌≤◌, refl, sym, ◌∙◌, ap, arith, ℤ, pos, ◌+ℤ◌, ◌-ℤ◌}
use Rattle.std.proofs.Common.{◌*ℤ◌, ◌≤ℤ◌, List, [], ◌∷◌, length, Option, Some, None}
use Rattle.std.specs.Int.{int_max}
use borrow.Author.Differences.{up, down, same_in, at_most_in, le_out, product_is, sum_is_lem}
use Rattle.fixed_num.specs.Floors.{floor_of}
use Rattle.fixed_num.specs.Sums.{sum_below, list_of}
use Rattle.fixed_num.proofs.SignedLemmas.{signed_arith}
use Rattle.fixed_num.proofs.FloorLemmas.{floor_of_mono, floor_of-le, floor_of-greatest, sum_below-floor_of}
use Rattle.fixed_num.proofs.SumLemmas.{sum_below_same, sum_below-swap, sum_below-none, sum_below-zero, sum_below-suc}
use Rattle.fixed_num.proofs.SumLemmas.{*ℤ-+ℤ, total-list_of, length-list_of}
use Rattle.instance_model.specs.Naturals.{count_sum}
use Rattle.instance_model.specs.Values.{excess_in, numerator_in}
use Rattle.instance_model.proofs.DeviationLemmas.{scale_mono, distribute}
use Rattle.lagrange_bound.specs.TermLemmas.{floor_of_scaled, below_excess, scale-swap, thousand_times}
use Rattle.refined_prices.specs.declared.member.Member.{Member}
use Rattle.refined_prices.specs.declared.group_tail.GroupTail.{GroupTail}
use Rattle.refined_prices.specs.Groups.{group_at, IsGroupTail, weighted_sum, least_below, least_group, greatest_below}
use Rattle.refined_prices.specs.Offsets.{group_count}
use Rattle.refined_prices.specs.GroupBases.{group_part, group_weighed}
use Rattle.refined_prices.proofs.GroupLemmas.{quantile_of, least_below-le, least_below_mono, least_group-le-quantile}
use Rattle.refined_prices.proofs.OffsetLemmas.{shares-le}

trans : (a b c : ℤ) → a ≤ℤ b → b ≤ℤ c → a ≤ℤ c
trans a b c h k = omega (arith, signed_arith)

-- ---- products of natural numbers with a whole number
pub scale-pos : (a b : ℕ) → pos a *ℤ pos b ≡ pos (a * b)
scale-pos a b = same_in (pos a *ℤ pos b) (pos (a * b)) (omega (arith, product_is (pos a) (pos b)))

pub mul-zero : (a : ℕ) → a * 0 ≡ 0
mul-zero a = omega arith

zero-scale : (z : ℤ) → pos 0 *ℤ z ≡ pos 0
zero-scale z = same_in (pos 0 *ℤ z) (pos 0) (omega (arith, product_is (pos 0) z))

-- ---- a * x + d * (n * y - b * x), which is linear in x and y
pub linear : ℕ → ℕ → ℕ → ℕ → ℤ → ℤ → ℤ
linear a d b n x y = (pos a *ℤ x) +ℤ (pos d *ℤ ((pos n *ℤ y) -ℤ (pos b *ℤ x)))

linear-add : (a d b n : ℕ) (x y z w : ℤ) → linear a d b n (x +ℤ z) (y +ℤ w) ≡ linear a d b n x y +ℤ linear a d b n z w
unfolding linear
linear-add a d b n x y z w =
    let inner : (pos n *ℤ (y +ℤ w)) -ℤ (pos b *ℤ (x +ℤ z))
    ≡ ((pos n *ℤ y) -ℤ (pos b *ℤ x)) +ℤ ((pos n *ℤ w) -ℤ (pos b *ℤ z)) =
    rw (*ℤ-+ℤ (pos n) y w, *ℤ-+ℤ (pos b) x z) (regroup_less (pos n *ℤ y) (pos n *ℤ w) (pos b *ℤ x) (pos b *ℤ z)) in
    rw (inner, *ℤ-+ℤ (pos a) x z, *ℤ-+ℤ (pos d) ((pos n *ℤ y) -ℤ (pos b *ℤ x)) ((pos n *ℤ w) -ℤ (pos b *ℤ z)))
    (regroup (pos a *ℤ x) (pos a *ℤ z) (pos d *ℤ ((pos n *ℤ y) -ℤ (pos b *ℤ x)))
    (pos d *ℤ ((pos n *ℤ w) -ℤ (pos b *ℤ z))))
  where
    regroup_less : (p q x z : ℤ) → (p +ℤ q) -ℤ (x +ℤ z) ≡ (p -ℤ x) +ℤ (q -ℤ z)
    regroup_less p q x z = omega (arith, signed_arith)

    regroup : (p q x z : ℤ) → (p +ℤ q) +ℤ (x +ℤ z) ≡ (p +ℤ x) +ℤ (q +ℤ z)
    regroup p q x z = omega (arith, signed_arith)

pub linear-zero : (a d b n : ℕ) → linear a d b n (pos 0) (pos 0) ≡ pos 0
unfolding linear
linear-zero a d b n = rw (mul-zero b) (ap pos (omega arith))

linear-sum : (a d b n m : ℕ) (x y : ℕ → ℤ) → sum_below m (λ i. linear a d b n (x i) (y i))
    ≡ linear a d b n (sum_below m x) (sum_below m y)
linear-sum a d b n zero x y = rw (sum_below-zero x, sum_below-zero y, sum_below-zero (λ i. linear a d b n (x i) (y i)))
    (sym (linear-zero a d b n))
linear-sum a d b n (suc m) x y =
    rw (
      sum_below-suc m x,
      sum_below-suc m y,
      sum_below-suc m (λ i. linear a d b n (x i) (y i)),
      linear-sum a d b n m x y,
    ) (sym (linear-add a d b n (sum_below m x) (sum_below m y) (x m) (y m)))

linear-mono : (a d b n : ℕ) (x y z : ℤ) → y ≤ℤ z → linear a d b n x y ≤ℤ linear a d b n x z
unfolding linear
linear-mono a d b n x y z h =
    let one = scale_mono n y z h in
    let two : ((pos n *ℤ y) -ℤ (pos b *ℤ x)) ≤ℤ ((pos n *ℤ z) -ℤ (pos b *ℤ x)) =
    less (pos n *ℤ y) (pos n *ℤ z) (pos b *ℤ x) one in
    let three = scale_mono d ((pos n *ℤ y) -ℤ (pos b *ℤ x)) ((pos n *ℤ z) -ℤ (pos b *ℤ x)) two in
    more (pos a *ℤ x) (pos d *ℤ ((pos n *ℤ y) -ℤ (pos b *ℤ x))) (pos d *ℤ ((pos n *ℤ z) -ℤ (pos b *ℤ x))) three
  where
    less : (u v w : ℤ) → u ≤ℤ v → (u -ℤ w) ≤ℤ (v -ℤ w)
    less u v w h = omega (arith, signed_arith)

    more : (w u v : ℤ) → u ≤ℤ v → (w +ℤ u) ≤ℤ (w +ℤ v)
    more w u v h = omega (arith, signed_arith)

-- an offset alone
linear-offset : (a d b n e : ℕ) → linear a d b n (pos 0) (pos e) ≡ pos (d * (n * e))
unfolding linear
linear-offset a d b n e = rw (mul-zero b) (ap pos (omega arith))

-- ---- against the numerator of the score

-- with the weight times the quantile, the fraction is at most 1000 times that of the score
linear-quantile : (alpha b n rank : ℕ) (f : ℕ → ℤ) → b ≤ 1000
    → linear (1000 * alpha) (1_000_000 - alpha) b n (sum_below n (λ k. f (k + 1))) (pos b *ℤ quantile_of n rank f)
    ≤ℤ (pos 1000 *ℤ numerator_in alpha rank (list_of n (λ k. f (k + 1))))
unfolding linear numerator_in excess_in
linear-quantile alpha b n rank f small =
    let s = sum_below n (λ k. f (k + 1)) in
    let q = quantile_of n rank f in
    let same : (pos n *ℤ (pos b *ℤ q)) -ℤ (pos b *ℤ s) ≡ pos b *ℤ ((pos n *ℤ q) -ℤ s) =
    ap (λ (z : ℤ). z -ℤ (pos b *ℤ s)) (scale-swap n b q) ∙ sym (distribute b (pos n *ℤ q) s) in
    rw (total-list_of n (λ k. f (k + 1)), length-list_of n (λ k. f (k + 1)), same)
    (thousand_times alpha (1_000_000 - alpha) s (pos b *ℤ ((pos n *ℤ q) -ℤ s)) (int_max (pos 0) ((pos n *ℤ q) -ℤ s))
    (below_excess b ((pos n *ℤ q) -ℤ s) small))

-- ---- the weighted sum over a group is linear
weighted_sum-add : (f h : ℕ → ℤ) (group : List Member)
    → weighted_sum (λ k. f k +ℤ h k) group ≡ weighted_sum f group +ℤ weighted_sum h group
unfolding weighted_sum
weighted_sum-add f h [] = refl
weighted_sum-add f h (x ∷ xs) =
    rw (*ℤ-+ℤ (pos x.weight) (f x.scenario) (h x.scenario), weighted_sum-add f h xs)
    (regroup (pos x.weight *ℤ f x.scenario) (pos x.weight *ℤ h x.scenario) (weighted_sum f xs) (weighted_sum h xs))
  where
    regroup : (p q x z : ℤ) → (p +ℤ q) +ℤ (x +ℤ z) ≡ (p +ℤ x) +ℤ (q +ℤ z)
    regroup p q x z = omega (arith, signed_arith)

pub weighted_sum-none : (group : List Member) → weighted_sum (λ k. pos 0) group ≡ pos 0
unfolding weighted_sum
weighted_sum-none [] = refl
weighted_sum-none (x ∷ xs) =
    ap (λ (z : ℤ). (pos x.weight *ℤ pos 0) +ℤ z) (weighted_sum-none xs) ∙ ap pos (omega arith)

weighted_sum-sum : (m : ℕ) (f : ℕ → ℕ → ℤ) (group : List Member)
    → weighted_sum (λ k. sum_below m (λ i. f i k)) group ≡ sum_below m (λ i. weighted_sum (f i) group)
unfolding sum_below
weighted_sum-sum zero f group = weighted_sum-none group
weighted_sum-sum (suc m) f group =
    weighted_sum-add (λ k. sum_below m (λ i. f i k)) (λ k. f m k) group
    ∙ ap (λ (z : ℤ). z +ℤ weighted_sum (f m) group) (weighted_sum-sum m f group)

-- ---- a period

-- the weight of a tail, and 0 where there is none
pub group_weight : Option GroupTail → ℕ
group_weight None = 0
group_weight (Some tail) = tail.weight

-- no share of an intervention is above a group's weighted sum with its offset; without a tail all are 0
abbrev pub KeepsShares : ℕ → (ℕ → ℕ → ℤ) → (ℕ → ℕ → ℕ) → Option GroupTail → (ℕ → ℤ) → Type 0
KeepsShares m f o None share = (i : ℕ) → i < m → share i ≡ pos 0
KeepsShares m f o (Some tail) share = (i g : ℕ) → i < m → g < length tail.groups
    → share i ≤ℤ (weighted_sum (f i) (group_at tail g) +ℤ pos (1_000_000_000_000 * o i g))

-- the shares add up to at most the weight times the quantile, and the greatest sum of offsets
shares-quantile : (n rank m : ℕ) (f : ℕ → ℕ → ℤ) (o : ℕ → ℕ → ℕ) (tail : Option GroupTail) (share : ℕ → ℤ) → 1 ≤ rank
    → rank ≤ n → ((x : GroupTail) → tail ≡ Some x → IsGroupTail n rank x) → KeepsShares m f o tail share
    → sum_below m share ≤ℤ ((pos (group_weight tail) *ℤ quantile_of n rank (λ k. sum_below m (λ i. f i k)))
    +ℤ pos (1_000_000_000_000 * greatest_below (group_count tail) (λ g. count_sum m (λ i. o i g))))
unfolding group_weight greatest_below
shares-quantile n rank m f o None share one few ok keeps =
    let e = sum_below_same m share (λ i. pos 0) keeps ∙ sum_below-none m in
    rw (e, zero-scale (quantile_of n rank (λ k. sum_below m (λ i. f i k)))) (omega (arith, signed_arith))
shares-quantile n rank m f o (Some tail) share one few ok keeps =
    let w = ok tail refl in
    let count = length tail.groups in
    let some : 0 < count = omega (arith, w.enough, few) in
    let sums = λ (k : ℕ). sum_below m (λ i. f i k) in
    let most = greatest_below (length tail.groups) (λ g. count_sum m (λ i. o i g)) in
    let split = shares-le m count 1_000_000_000_000 share (λ i g. weighted_sum (f i) (group_at tail g)) o some keeps in
    let swap = least_below_mono count (λ g. sum_below m (λ i. weighted_sum (f i) (group_at tail g)))
    (λ g. weighted_sum (λ k. sum_below m (λ i. f i k)) (group_at tail g)) some
    (λ g l. rw (weighted_sum-sum m f (group_at tail g)) (omega (arith, signed_arith))) in
    let low = least_group-le-quantile n rank (λ k. sum_below m (λ i. f i k)) tail one few w in
    at (sum_below m share) (least_below count (λ g. sum_below m (λ i. weighted_sum (f i) (group_at tail g))))
    (least_below count (λ g. weighted_sum (λ k. sum_below m (λ i. f i k)) (group_at tail g)))
    (pos tail.weight *ℤ quantile_of n rank (λ k. sum_below m (λ i. f i k))) (pos (1_000_000_000_000 * most))
    split swap low
  where
    at : (x y z w e : ℤ) → x ≤ℤ (y +ℤ e) → y ≤ℤ z → z ≤ℤ w → x ≤ℤ (w +ℤ e)
    at x y z w e h k l = omega (arith, signed_arith)

-- with such shares, the fraction is at most 1000 times that of the score, and what the offsets cost
linear-shares : (alpha b n rank e : ℕ) (f : ℕ → ℤ) (y : ℤ) → b ≤ 1000
    → y ≤ℤ ((pos b *ℤ quantile_of n rank f) +ℤ pos (1_000_000_000_000 * e))
    → linear (1000 * alpha) (1_000_000 - alpha) b n (sum_below n (λ k. f (k + 1))) y
    ≤ℤ (pos 1000 *ℤ (numerator_in alpha rank (list_of n (λ k. f (k + 1)))
    +ℤ pos (n * ((1_000_000 - alpha) * 1_000_000_000 * e))))
linear-shares alpha b n rank e f y small h =
    let a = 1000 * alpha in
    let d = 1_000_000 - alpha in
    let s = sum_below n (λ k. f (k + 1)) in
    let bq = pos b *ℤ quantile_of n rank f in
    let v = numerator_in alpha rank (list_of n (λ k. f (k + 1))) in
    let c = n * ((1_000_000 - alpha) * 1_000_000_000 * e) in
    let more = linear-mono a d b n s y (bq +ℤ pos (1_000_000_000_000 * e)) h in
    let whole : s +ℤ pos 0 ≡ s = omega (arith, signed_arith) in
    let parts = ap (λ (z : ℤ). linear (1000 * alpha) (1_000_000 - alpha) b n z
    ((pos b *ℤ quantile_of n rank f) +ℤ pos (1_000_000_000_000 * e))) (sym whole)
    ∙ linear-add a d b n s bq (pos 0) (pos (1_000_000_000_000 * e)) in
    let rest = linear-offset a d b n (1_000_000_000_000 * e) in
    let same : d * (n * (1_000_000_000_000 * e)) ≡ 1000 * c = omega arith in
    let last = linear-quantile alpha b n rank f small in
    let scaled : pos 1000 *ℤ (v +ℤ pos c) ≡ (pos 1000 *ℤ v) +ℤ pos (1000 * c) =
    *ℤ-+ℤ (pos 1000) v (pos c) ∙ ap (λ (z : ℤ). (pos 1000 *ℤ numerator_in alpha rank (list_of n (λ k. f (k + 1)))) +ℤ z)
    (scale-pos 1000 c) in
    rw scaled (trans (linear a d b n s y) (linear a d b n s bq +ℤ pos (1000 * c)) ((pos 1000 *ℤ v) +ℤ pos (1000 * c))
    (rw (parts, rest, same) at more)
    (wider (linear a d b n s bq) (pos 1000 *ℤ v) (pos (1000 * c)) last))
  where
    wider : (x y z : ℤ) → x ≤ℤ y → (x +ℤ z) ≤ℤ (y +ℤ z)
    wider x y z h = omega (arith, signed_arith)

-- the cost of the offsets is whole, so it leaves the floor
floor_of-less : (a : ℤ) (n c : ℕ) → 0 < n → (floor_of (a +ℤ pos (n * c)) n -ℤ pos c) ≤ℤ floor_of a n
floor_of-less a n c some =
    let f = floor_of (a +ℤ pos (n * c)) n in
    let o = le_out (floor_of (a +ℤ pos (n * c)) n *ℤ pos n) (a +ℤ pos (n * c))
    (floor_of-le (a +ℤ pos (n * c)) n some) in
    let l : up (f -ℤ pos c) + (down f + c) ≡ down (f -ℤ pos c) + up f = omega (arith, signed_arith) in
    let m : (up (f -ℤ pos c) + (down f + c)) * n ≡ (down (f -ℤ pos c) + up f) * n = ap (λ (t : ℕ). t * n) l in
    floor_of-greatest a (f -ℤ pos c) n some (at_most_in ((f -ℤ pos c) *ℤ pos n) a
    (omega (arith, o, m, product_is f (pos n), product_is (f -ℤ pos c) (pos n), sum_is_lem a (pos (n * c)))))

-- the floors of the fractions of one period add up, less what the offsets cost, to at most the floor of the period's
-- share of the score
pub floors-le : (alpha n rank m : ℕ) (f : ℕ → ℕ → ℤ) (o : ℕ → ℕ → ℕ) (tail : Option GroupTail) (share : ℕ → ℤ)
    → 1 ≤ rank → rank ≤ n → ((x : GroupTail) → tail ≡ Some x → IsGroupTail n rank x) → KeepsShares m f o tail share
    → (sum_below m (λ i. floor_of (linear (1000 * alpha) (1_000_000 - alpha) (group_weight tail) n
    (sum_below n (λ k. f i (k + 1))) (share i)) (1000 * n))
    -ℤ pos ((1_000_000 - alpha) * 1_000_000_000 * greatest_below (group_count tail) (λ g. count_sum m (λ i. o i g))))
    ≤ℤ floor_of (numerator_in alpha rank (list_of n (λ k. sum_below m (λ i. f i (k + 1))))) n
unfolding group_weight
floors-le alpha n rank m f o tail share one few ok keeps =
    let a = 1000 * alpha in
    let d = 1_000_000 - alpha in
    let b = group_weight tail in
    let e = greatest_below (group_count tail) (λ g. count_sum m (λ i. o i g)) in
    let c = (1_000_000 - alpha) * 1_000_000_000 * e in
    let sums : ℕ → ℤ = λ k. sum_below m (λ i. f i k) in
    let v = numerator_in alpha rank (list_of n (λ k. sum_below m (λ i. f i (k + 1)))) in
    let x : ℕ → ℤ = λ i. sum_below n (λ k. f i (k + 1)) in
    let some : 0 < n = omega (arith, one, few) in
    let some_thousand : 0 < 1000 * n = omega (arith, some) in
    let fraction : ℕ → ℤ = λ i. linear (1000 * alpha) (1_000_000 - alpha) (group_weight tail) n
    (sum_below n (λ k. f i (k + 1))) (share i) in
    let floors = sum_below-floor_of m fraction (1000 * n) some_thousand in
    let added : sum_below m fraction
    ≡ linear a d b n (sum_below n (λ k. sum_below m (λ i. f i (k + 1)))) (sum_below m share) =
    linear-sum a d b n m x share ∙ ap (λ (z : ℤ). linear (1000 * alpha) (1_000_000 - alpha) (group_weight tail) n z
    (sum_below m share)) (sum_below-swap m n (λ i k. f i (k + 1))) in
    let shares = shares-quantile n rank m f o tail share one few ok keeps in
    let most = linear-shares alpha b n rank e sums (sum_below m share) (small tail ok) shares in
    let below = floor_of_mono (sum_below m fraction) (pos 1000 *ℤ (v +ℤ pos (n * c))) (1000 * n) some_thousand
    (rw added most) in
    let last = rw (floor_of_scaled 1000 (v +ℤ pos (n * c)) n (omega arith) some) at below in
    let cost = floor_of-less v n c some in
    finish (sum_below m (λ i. floor_of (fraction i) (1000 * n))) (floor_of (sum_below m fraction) (1000 * n))
    (floor_of (v +ℤ pos (n * c)) n) (pos c) (floor_of v n) floors last cost
  where
    small : (tail : Option GroupTail) → ((x : GroupTail) → tail ≡ Some x → IsGroupTail n rank x)
        → group_weight tail ≤ 1000
    small None ok = omega arith
    small (Some x) ok = (ok x refl).small_weight

    finish : (x y z c v : ℤ) → x ≤ℤ y → y ≤ℤ z → (z -ℤ c) ≤ℤ v → (x -ℤ c) ≤ℤ v
    finish x y z c v h k l = omega (arith, signed_arith)

-- ---- the fraction of a term

-- the least over the groups of a tail, and 0 where there is none
unfoldable pub lowest_group : (ℕ → ℤ) → (ℕ → ℕ) → Option GroupTail → ℤ
lowest_group f offset None = pos 0
lowest_group f offset (Some tail) = least_group f offset tail

pub group_weighed_is : (alpha n : ℕ) (f : ℕ → ℤ) (offset : ℕ → ℕ) (tail : Option GroupTail)
    → group_weighed alpha n f offset tail ≡ linear (1000 * alpha) (1_000_000 - alpha) (group_weight tail) n
    (sum_below n (λ k. f (k + 1))) (lowest_group f offset tail)
unfolding group_weighed group_part linear group_weight lowest_group
group_weighed_is alpha n f offset None =
    ap (λ (z : ℤ). (pos (1000 * alpha) *ℤ sum_below n (λ k. f (k + 1))) +ℤ (pos (1_000_000 - alpha) *ℤ z))
    (sym (nothing (sum_below n (λ k. f (k + 1)))))
  where
    nothing : (z : ℤ) → (pos n *ℤ pos 0) -ℤ (pos 0 *ℤ z) ≡ pos 0
    nothing z = rw (zero-scale z) (ap pos (omega arith))
group_weighed_is alpha n f offset (Some tail) = refl

-- each group's weighted sum, with its offset, is at least the least one
pub lowest_group-keeps : (f : ℕ → ℤ) (offset : ℕ → ℕ) (tail : GroupTail) (g : ℕ) → g < length tail.groups
    → lowest_group f offset (Some tail) ≤ℤ (weighted_sum f (group_at tail g) +ℤ pos (offset g))
unfolding lowest_group least_group
lowest_group-keeps f offset tail g l =
    least_below-le (length tail.groups) (λ g. weighted_sum f (group_at tail g) +ℤ pos (offset g)) g l
