-- How large the terms and bases under tails by groups can be, and what the offsets cost.
use Rattle.std.proofs.Common.{◌≡◌, ℕ, zero, suc, ◌+◌, ◌-◌, ◌*◌, ◌<◌, ◌≤◌, ◌^◌, refl, arith, ℤ, pos, ◌+ℤ◌, ◌-ℤ◌, ◌*ℤ◌}
use Rattle.std.proofs.Common.{Bool, true, false, cond, List, [], ◌∷◌, length, Option, Some, None, unsigned_abs}
use Rattle.std.specs.List.{AllByRecursion}
use Rattle.std.proofs.lemmas.List.Elements.{All-get_or}
use Rattle.std.proofs.lemmas.Nat.{mul-le}
use Rattle.std.proofs.Math.Nat.{mul-le-mul_right}
use Rattle.fixed_num.specs.Sums.{sum_below}
use Rattle.fixed_num.proofs.FloorLemmas.{floor_within}
use Rattle.fixed_num.proofs.SignedLemmas.{signed_arith, abs-product}
use Rattle.fixed_num.proofs.SumLemmas.{abs-sum, sum_below-within}
use Rattle.instance_model.specs.Naturals.{count_sum}
use Rattle.instance_model.specs.Tables.{Tables, scenarios_of, rank_of, in_run, risk_of}
use Rattle.instance_model.specs.Fitting.{IsFitting}
use Rattle.instance_model.proofs.FitLemmas.{scenarios_of_small, risk_of_small, rank_of_from}
use Rattle.refined_prices.specs.declared.member.Member.{Member}
use Rattle.refined_prices.specs.declared.group_tail.GroupTail.{GroupTail}
use Rattle.refined_prices.specs.declared.offset.Offset.{Offset}
use Rattle.refined_prices.specs.Groups.{group_at, weight_in, IsGroup, IsGroupTail, weighted_sum, greatest_below}
use Rattle.refined_prices.specs.Groups.{least_group}
use Rattle.refined_prices.specs.Offsets.{group_tail_at, group_count, is_offset_of, offset_of, IsOffset}
use Rattle.refined_prices.specs.GroupBases.{group_part, group_weighed, group_term_of, group_base_of, offset_most}
use Rattle.refined_prices.specs.GroupBases.{offset_cost}
use Rattle.refined_prices.proofs.GroupLemmas.{least_below_reached}
use Rattle.refined_prices.proofs.GroupLaw.{AreTails}

-- ---- offsets

-- an offset of a list in range
pub offset_of_small : (inst : Tables) (tails : List (Option GroupTail)) (xs : List Offset) (t i g : ℕ)
    → AllByRecursion (IsOffset inst tails) xs → offset_of xs t i g ≤ 1_000_000_000
unfolding offset_of
offset_of_small inst tails [] t i g ok = omega arith
offset_of_small inst tails (x ∷ xs) t i g ok =
    at (is_offset_of t i g x) (offset_of_small inst tails xs t i g ok.1)
  where
    at : (b : Bool) → offset_of xs t i g ≤ 1_000_000_000 → cond b x.value (offset_of xs t i g) ≤ 1_000_000_000
    at true h = ok.0.small
    at false h = h

pub count_sum_within : (n b : ℕ) (f : ℕ → ℕ) → ((k : ℕ) → f k ≤ b) → count_sum n f ≤ n * b
unfolding count_sum
count_sum_within zero b f h = omega arith
count_sum_within (suc n) b f h = omega (arith, count_sum_within n b f h, h n)

pub greatest_below_within : (n b : ℕ) (f : ℕ → ℕ) → ((k : ℕ) → f k ≤ b) → greatest_below n f ≤ b
unfolding greatest_below
greatest_below_within zero b f h = omega arith
greatest_below_within (suc n) b f h = let w = greatest_below_within n b f h in let v = h n in omega (arith, w, v)

-- what the offsets cost
pub offset_cost_small : (inst : Tables) (tails : List (Option GroupTail)) (offsets : List Offset) → IsFitting inst
    → AllByRecursion (IsOffset inst tails) offsets → offset_cost inst tails offsets < 10 ^ 30
unfolding offset_cost offset_most
offset_cost_small inst tails offsets fit ok =
    let m = length inst.names in
    let all = count_sum_within inst.periods 1_024_000_000_000_000_000_000_000_000
    (λ u. (1_000_000 - inst.alpha) * 1_000_000_000
    * greatest_below (group_count (group_tail_at tails (u + 1)))
    (λ g. count_sum (length inst.names) (λ i. offset_of offsets (u + 1) i g)))
    (λ u. let w = greatest_below_within (group_count (group_tail_at tails (u + 1))) 1_024_000_000_000
    (λ g. count_sum (length inst.names) (λ i. offset_of offsets (u + 1) i g))
    (λ g. let s = count_sum_within m 1_000_000_000 (λ i. offset_of offsets (u + 1) i g)
    (λ i. offset_of_small inst tails offsets (u + 1) i g ok) in omega (arith, s, fit.names.few)) in
    mul-le ((1_000_000 - inst.alpha) * 1_000_000_000)
    (greatest_below (group_count (group_tail_at tails (u + 1)))
    (λ g. count_sum (length inst.names) (λ i. offset_of offsets (u + 1) i g)))
    1_000_000_000_000_000 1_024_000_000_000 (omega arith) w) in
    omega (arith, all, fit.few_periods)

-- ---- the sums over groups

-- m bounds each number: the weight times m bounds the weighted sum
weighted_sum_small : (f : ℕ → ℤ) (m : ℕ) (group : List Member) → ((k : ℕ) → unsigned_abs (f k) ≤ m)
    → unsigned_abs (weighted_sum f group) ≤ weight_in group * m
unfolding weighted_sum weight_in
weighted_sum_small f m [] h = omega arith
weighted_sum_small f m (x ∷ xs) h =
    let p = abs-product (pos x.weight) (f x.scenario) x.weight m (omega arith) (h x.scenario) in
    let s = abs-sum (pos x.weight *ℤ f x.scenario) (weighted_sum f xs) in
    omega (arith, p, s, weighted_sum_small f m xs h)

least_group_small : (n rank m o : ℕ) (f : ℕ → ℤ) (offset : ℕ → ℕ) (tail : GroupTail)
    → ((k : ℕ) → unsigned_abs (f k) ≤ m) → ((g : ℕ) → offset g ≤ o) → rank ≤ n → IsGroupTail n rank tail
    → unsigned_abs (least_group f offset tail) ≤ 1000 * m + o
unfolding least_group
least_group_small n rank m o f offset tail h low few ok =
    let w = least_below_reached (length tail.groups) (λ g. weighted_sum f (group_at tail g) +ℤ pos (offset g))
    (omega (arith, ok.enough, few)) in
    let z = All-get_or (IsGroup n tail.weight) tail.groups w.0 [] w.1 ok.groups in
    let s = rw z.adds_up at (weighted_sum_small f m (group_at tail w.0) h) in
    let t = abs-sum (weighted_sum f (group_at tail w.0)) (pos (offset w.0)) in
    let b = low w.0 in
    let p : tail.weight * m ≤ 1000 * m = mul-le-mul_right m ok.small_weight in
    rw w.2 (omega (arith, s, t, b, p))

group_part_small : (n rank m o : ℕ) (f : ℕ → ℤ) (offset : ℕ → ℕ) (tail : Option GroupTail)
    → ((k : ℕ) → unsigned_abs (f k) ≤ m) → ((g : ℕ) → offset g ≤ o) → rank ≤ n
    → ((x : GroupTail) → tail ≡ Some x → IsGroupTail n rank x)
    → unsigned_abs (group_part n f offset tail) ≤ n * (1000 * m + o) + 1000 * (n * m)
unfolding group_part
group_part_small n rank m o f offset None h low few ok = omega arith
group_part_small n rank m o f offset (Some tail) h low few ok =
    let w = ok tail refl in
    let s = sum_below-within n m (λ k. f (k + 1)) (λ k l. h (k + 1)) in
    let l = least_group_small n rank m o f offset tail h low few w in
    let p = abs-product (pos n) (least_group f offset tail) n (1000 * m + o) (omega arith) l in
    let q = abs-product (pos tail.weight) (sum_below n (λ k. f (k + 1))) 1000 (n * m) w.small_weight s in
    less (pos n *ℤ least_group f offset tail) (pos tail.weight *ℤ sum_below n (λ k. f (k + 1))) (n * (1000 * m + o))
    (1000 * (n * m)) p q
  where
    less : (a b : ℤ) (m n : ℕ) → unsigned_abs a ≤ m → unsigned_abs b ≤ n → unsigned_abs (a -ℤ b) ≤ m + n
    less a b m n h k = omega (arith, signed_arith, h, k)

-- ---- terms and bases
group_weighed_small : (alpha n rank m o : ℕ) (f : ℕ → ℤ) (offset : ℕ → ℕ) (tail : Option GroupTail) → alpha ≤ 1_000_000
    → ((k : ℕ) → unsigned_abs (f k) ≤ m) → ((g : ℕ) → offset g ≤ o) → rank ≤ n
    → ((x : GroupTail) → tail ≡ Some x → IsGroupTail n rank x)
    → unsigned_abs (group_weighed alpha n f offset tail) ≤ 3_000_000_000 * (n * m) + 1_000_000 * (n * o)
unfolding group_weighed
group_weighed_small alpha n rank m o f offset tail ha h low few ok =
    let s = sum_below-within n m (λ k. f (k + 1)) (λ k l. h (k + 1)) in
    let p = group_part_small n rank m o f offset tail h low few ok in
    let x = abs-product (pos (1000 * alpha)) (sum_below n (λ k. f (k + 1))) 1_000_000_000 (n * m)
    (omega (arith, ha)) s in
    let y = abs-product (pos (1_000_000 - alpha)) (group_part n f offset tail) 1_000_000
    (n * (1000 * m + o) + 1000 * (n * m)) (omega arith) p in
    let t = abs-sum (pos (1000 * alpha) *ℤ sum_below n (λ k. f (k + 1)))
    (pos (1_000_000 - alpha) *ℤ group_part n f offset tail) in
    omega (arith, x, y, t)

pub group_term_of_small : (inst : Tables) (tail : Option GroupTail) (offset : ℕ → ℕ) (i s t : ℕ) → IsFitting inst
    → 1 ≤ t → t ≤ inst.periods → ((g : ℕ) → offset g ≤ 1_000_000_000)
    → ((x : GroupTail) → tail ≡ Some x → IsGroupTail (scenarios_of inst t) (rank_of inst t) x)
    → unsigned_abs (group_term_of inst tail offset i s t) ≤ 301_000_000_000_000_000_000_000_000
unfolding group_term_of
group_term_of_small inst tail offset i s t fit one few low ok =
    let n = scenarios_of inst t in
    let some = scenarios_of_small inst t fit one few in
    let rank = rank_of_from inst t fit one few in
    let z = group_weighed_small inst.alpha n (rank_of inst t) 100_000_000_000_000_000_000 1_000_000_000_000_000_000_000
    (risk_of inst i s t) (λ g. 1_000_000_000_000 * offset g) tail fit.alpha
    (λ k. weaken (unsigned_abs (risk_of inst i s t k)) (risk_of_small inst i s t k fit))
    (λ g. let b = low g in omega (arith, b)) rank.1 ok in
    floor_within (group_weighed inst.alpha n (risk_of inst i s t) (λ g. 1_000_000_000_000 * offset g) tail) (1000 * n)
    301_000_000_000_000_000_000_000_000 (omega (arith, some)) (omega (arith, z))
  where
    weaken : (n : ℕ) → n < 100_000_000_000_000_000_000 → n ≤ 100_000_000_000_000_000_000
    weaken n h = omega (arith, h)

-- a base, under tails and offsets in range
pub group_base_of_small : (inst : Tables) (tails : List (Option GroupTail)) (offsets : List Offset) (i s : ℕ)
    → IsFitting inst → AreTails inst tails → AllByRecursion (IsOffset inst tails) offsets
    → unsigned_abs (group_base_of inst tails offsets i s) < 10 ^ 30
unfolding group_base_of
group_base_of_small inst tails offsets i s fit ok offsets_ok =
    let all = sum_below-within inst.periods 301_000_000_000_000_000_000_000_000
    (λ u. cond (in_run inst i s (u + 1))
    (group_term_of inst (group_tail_at tails (u + 1)) (offset_of offsets (u + 1) i) i s (u + 1)) (pos 0))
    (λ u l. at (in_run inst i s (u + 1))
    (group_term_of inst (group_tail_at tails (u + 1)) (offset_of offsets (u + 1) i) i s (u + 1))
    (group_term_of_small inst (group_tail_at tails (u + 1)) (offset_of offsets (u + 1) i) i s (u + 1) fit
    (omega arith) (omega (arith, l)) (λ g. offset_of_small inst tails offsets (u + 1) i g offsets_ok)
    (ok (u + 1) (omega arith) (omega (arith, l))))) in
    omega (arith, all, fit.few_periods)
  where
    at : (b : Bool) (z : ℤ) → unsigned_abs z ≤ 301_000_000_000_000_000_000_000_000
        → unsigned_abs (cond b z (pos 0)) ≤ 301_000_000_000_000_000_000_000_000
    at true z h = h
    at false z h = omega arith
