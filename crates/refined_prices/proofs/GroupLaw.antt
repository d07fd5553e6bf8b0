-- The bases of a plan's starts under tails by groups add up, less what the offsets cost, to at most its score.
use Rattle.std.proofs.Common.{◌≡◌, ℕ, zero, suc, ◌+◌, ◌-◌, ◌*◌, ◌<◌, ◌≤◌, refl, sym, ◌∙◌, ap, subst, arith, ℤ, pos}
use Rattle.std.proofs.Common.{◌+ℤ◌, ◌-ℤ◌, ◌≤ℤ◌, Bool, true, false, cond, List, length, map, get_or, Option, Some, None}
use Rattle.fixed_num.specs.Floors.{floor_of}
use Rattle.fixed_num.specs.Sums.{sum_below}
use Rattle.fixed_num.proofs.SignedLemmas.{signed_arith}
use Rattle.fixed_num.proofs.SumLemmas.{sum_below_same, sum_below-swap, sum_below-none}
use Rattle.instance_model.specs.Naturals.{count_sum}
use Rattle.instance_model.specs.Tables.{Tables, scenarios_of, rank_of, in_run, risk_of}
use Rattle.instance_model.specs.Fitting.{IsFitting}
use Rattle.instance_model.specs.Plans.{start_of, AreAllowedStarts, risk_at, scenario_sum, scenario_sums}
use Rattle.instance_model.specs.Values.{numerator_of, sum_of_floors}
use Rattle.instance_model.proofs.FitLemmas.{scenarios_of_small, rank_of_from}
use Rattle.instance_model.proofs.BoardLemmas.{start_of-starts}
use Rattle.lagrange_bound.specs.Goals.{risk_value}
use Rattle.refined_prices.specs.declared.group_tail.GroupTail.{GroupTail}
use Rattle.refined_prices.specs.declared.offset.Offset.{Offset}
use Rattle.refined_prices.specs.Groups.{group_at, IsGroupTail, weighted_sum, greatest_below}
use Rattle.refined_prices.specs.Offsets.{group_tail_at, group_count, offset_of}
use Rattle.refined_prices.specs.GroupBases.{group_weighed, group_term_of, group_base_of, offset_most, offset_cost}
use Rattle.refined_prices.proofs.GroupTermLemmas.{linear, linear-zero, group_weight, KeepsShares, floors-le}
use Rattle.refined_prices.proofs.GroupTermLemmas.{lowest_group, group_weighed_is, lowest_group-keeps, weighted_sum-none}

-- the tails of all periods are in range
abbrev pub AreTails : Tables → List (Option GroupTail) → Type 0
AreTails inst tails =
    (t : ℕ) → 1 ≤ t → t ≤ inst.periods → (tail : GroupTail) → group_tail_at tails t ≡ Some tail
    → IsGroupTail (scenarios_of inst t) (rank_of inst t) tail

-- what an intervention adds in a period, under its offsets by group
cell : Tables → Option GroupTail → (ℕ → ℕ) → ℕ → ℕ → Option ℕ → ℤ
cell inst tail offset t i None = pos 0
cell inst tail offset t i (Some s) = cond (in_run inst i s t) (group_term_of inst tail offset i s t) (pos 0)

-- its least over the groups: 0 where it isn't in progress
share : Tables → Option GroupTail → (ℕ → ℕ) → ℕ → ℕ → Option ℕ → ℤ
share inst tail offset t i None = pos 0
share inst tail offset t i (Some s) =
    cond (in_run inst i s t) (lowest_group (risk_of inst i s t) (λ g. 1_000_000_000_000 * offset g) tail) (pos 0)

-- the fraction of the risks that it adds
fraction : Tables → Option GroupTail → (ℕ → ℕ) → ℕ → ℕ → Option ℕ → ℤ
fraction inst tail offset t i o =
    linear (1000 * inst.alpha) (1_000_000 - inst.alpha) (group_weight tail) (scenarios_of inst t)
    (sum_below (scenarios_of inst t) (λ k. risk_at inst t (k + 1) i o)) (share inst tail offset t i o)

-- a cell is one floor, of that fraction
cell_is : (inst : Tables) (tail : Option GroupTail) (offset : ℕ → ℕ) (t i : ℕ) (o : Option ℕ) → 0 < scenarios_of inst t
    → cell inst tail offset t i o ≡ floor_of (fraction inst tail offset t i o) (1000 * scenarios_of inst t)
unfolding cell share fraction risk_at group_term_of
cell_is inst tail offset t i o h = at o
  where
    nothing : floor_of (linear (1000 * inst.alpha) (1_000_000 - inst.alpha) (group_weight tail) (scenarios_of inst t)
        (sum_below (scenarios_of inst t) (λ k. pos 0)) (pos 0)) (1000 * scenarios_of inst t) ≡ pos 0
    nothing = rw (
      sum_below-none (scenarios_of inst t),
      linear-zero (1000 * inst.alpha) (1_000_000 - inst.alpha) (group_weight tail) (scenarios_of inst t),
    ) (ap pos (omega arith))

    running : (s : ℕ) (b : Bool) → cond b (floor_of (group_weighed inst.alpha (scenarios_of inst t) (risk_of inst i s t)
        (λ g. 1_000_000_000_000 * offset g) tail) (1000 * scenarios_of inst t)) (pos 0)
        ≡ floor_of (linear (1000 * inst.alpha) (1_000_000 - inst.alpha) (group_weight tail) (scenarios_of inst t)
        (sum_below (scenarios_of inst t) (λ k. cond b (risk_of inst i s t (k + 1)) (pos 0)))
        (cond b (lowest_group (risk_of inst i s t) (λ g. 1_000_000_000_000 * offset g) tail) (pos 0)))
        (1000 * scenarios_of inst t)
    running s true = ap (λ (z : ℤ). floor_of z (1000 * scenarios_of inst t))
        (group_weighed_is inst.alpha (scenarios_of inst t) (risk_of inst i s t) (λ g. 1_000_000_000_000 * offset g)
        tail)
    running s false = sym nothing

    at : (o : Option ℕ) → cell inst tail offset t i o
        ≡ floor_of (fraction inst tail offset t i o) (1000 * scenarios_of inst t)
    at None = sym nothing
    at (Some s) = running s (in_run inst i s t)

-- each group's weighted sum of the risks that it adds, with its offset, is at least its share
share-keeps : (inst : Tables) (tail : GroupTail) (offset : ℕ → ℕ) (t i : ℕ) (o : Option ℕ) (g : ℕ)
    → g < length tail.groups → share inst (Some tail) offset t i o
    ≤ℤ (weighted_sum (λ k. risk_at inst t k i o) (group_at tail g) +ℤ pos (1_000_000_000_000 * offset g))
unfolding share risk_at
share-keeps inst tail offset t i o g l = at o
  where
    idle : pos 0 ≤ℤ (weighted_sum (λ k. pos 0) (group_at tail g) +ℤ pos (1_000_000_000_000 * offset g))
    idle = rw (weighted_sum-none (group_at tail g)) (omega (arith, signed_arith))

    running : (s : ℕ) (b : Bool)
        → cond b (lowest_group (risk_of inst i s t) (λ g. 1_000_000_000_000 * offset g) (Some tail)) (pos 0)
        ≤ℤ (weighted_sum (λ k. cond b (risk_of inst i s t k) (pos 0)) (group_at tail g)
        +ℤ pos (1_000_000_000_000 * offset g))
    running s true = lowest_group-keeps (risk_of inst i s t) (λ g. 1_000_000_000_000 * offset g) tail g l
    running s false = idle

    at : (o : Option ℕ) → share inst (Some tail) offset t i o
        ≤ℤ (weighted_sum (λ k. risk_at inst t k i o) (group_at tail g) +ℤ pos (1_000_000_000_000 * offset g))
    at None = idle
    at (Some s) = running s (in_run inst i s t)

share-none : (inst : Tables) (offset : ℕ → ℕ) (t i : ℕ) (o : Option ℕ) → share inst None offset t i o ≡ pos 0
unfolding share lowest_group
share-none inst offset t i None = refl
share-none inst offset t i (Some s) = at (in_run inst i s t)
  where
    at : (b : Bool) → cond b (pos 0) (pos 0) ≡ pos 0
    at true = refl
    at false = refl

-- in each period the cells add up, less what the offsets cost, to at most the floor of the period's share of the score
period_le : (inst : Tables) (tail : Option GroupTail) (offset : ℕ → ℕ → ℕ) (plan : List (Option ℕ)) (t : ℕ)
    → IsFitting inst → 1 ≤ t → t ≤ inst.periods
    → ((x : GroupTail) → tail ≡ Some x → IsGroupTail (scenarios_of inst t) (rank_of inst t) x)
    → (sum_below (length inst.names) (λ i. cell inst tail (offset i) t i (start_of plan i))
    -ℤ pos ((1_000_000 - inst.alpha) * 1_000_000_000
    * greatest_below (group_count tail) (λ g. count_sum (length inst.names) (λ i. offset i g))))
    ≤ℤ floor_of (numerator_of inst plan t) (scenarios_of inst t)
unfolding scenario_sums scenario_sum fraction
period_le inst tail offset plan t fit one few ok =
    let m = length inst.names in
    let n = scenarios_of inst t in
    let small = scenarios_of_small inst t fit one few in
    let rank = rank_of_from inst t fit one few in
    let same = sum_below_same m (λ i. cell inst tail (offset i) t i (start_of plan i))
    (λ i. floor_of (fraction inst tail (offset i) t i (start_of plan i)) (1000 * scenarios_of inst t))
    (λ i l. cell_is inst tail (offset i) t i (start_of plan i) (omega (arith, small))) in
    rw same (floors-le inst.alpha n (rank_of inst t) m (λ i k. risk_at inst t k i (start_of plan i)) offset tail
    (λ i. share inst tail (offset i) t i (start_of plan i)) rank.0 rank.1 ok (keeps tail))
  where
    keeps : (tail : Option GroupTail) → KeepsShares (length inst.names)
        (λ i k. risk_at inst t k i (start_of plan i)) offset tail
        (λ i. share inst tail (offset i) t i (start_of plan i))
    keeps None = λ i l. share-none inst (offset i) t i (start_of plan i)
    keeps (Some x) = λ i g l h. share-keeps inst x (offset i) t i (start_of plan i) g h

-- a sum of numbers, each less a natural number
sum_below-each_less : (n : ℕ) (f h : ℕ → ℤ) (c : ℕ → ℕ) → ((k : ℕ) → k < n → (f k -ℤ pos (c k)) ≤ℤ h k)
    → (sum_below n f -ℤ pos (count_sum n c)) ≤ℤ sum_below n h
unfolding sum_below count_sum
sum_below-each_less zero f h c le = omega (arith, signed_arith)
sum_below-each_less (suc n) f h c le =
    at (sum_below n f) (sum_below n h) (f n) (h n) (count_sum n c) (c n)
    (sum_below-each_less n f h c (λ k l. le k (omega (arith, l)))) (le n (omega arith))
  where
    at : (x y z w : ℤ) (a b : ℕ) → (x -ℤ pos a) ≤ℤ y → (z -ℤ pos b) ≤ℤ w → ((x +ℤ z) -ℤ pos (a + b)) ≤ℤ (y +ℤ w)
    at x y z w a b h k = omega (arith, signed_arith)

-- the bases of a plan's starts add up, less what the offsets cost, to at most its score
pub group_law : (inst : Tables) (tails : List (Option GroupTail)) (offsets : List Offset) (starts : List ℕ)
    → IsFitting inst → AreTails inst tails → AreAllowedStarts inst starts
    → (sum_below (length inst.names) (λ i. group_base_of inst tails offsets i (get_or starts i 0))
    -ℤ pos (offset_cost inst tails offsets)) ≤ℤ risk_value inst starts
unfolding sum_of_floors group_base_of offset_cost offset_most cell
group_law inst tails offsets starts fit ok a =
    let m = length inst.names in
    let p = inst.periods in
    let plan = map Some starts in
    let moved : ℕ → ℕ → ℕ → ℕ = λ u i. offset_of offsets (u + 1) i in
    let cells : ℕ → ℕ → ℤ =
    λ i u. cell inst (group_tail_at tails (u + 1)) (offset_of offsets (u + 1) i) (u + 1) i
    (start_of (map Some starts) i) in
    let floors : ℕ → ℤ = λ u. floor_of (numerator_of inst (map Some starts) (u + 1)) (scenarios_of inst (u + 1)) in
    let same = sum_below_same m (λ i. group_base_of inst tails offsets i (get_or starts i 0))
    (λ i. sum_below p (cells i))
    (λ i l. ap (λ (o : Option ℕ). sum_below inst.periods (λ u. cell inst (group_tail_at tails (u + 1))
    (offset_of offsets (u + 1) i) (u + 1) i o)) (sym (start_of-starts starts i (omega (arith, l, a.each))))) in
    let by_period = sum_below-swap m p cells in
    let less = sum_below-each_less p (λ u. sum_below m (λ i. cells i u)) floors
    (λ u. (1_000_000 - inst.alpha) * 1_000_000_000 * greatest_below (group_count (group_tail_at tails (u + 1)))
    (λ g. count_sum (length inst.names) (λ i. offset_of offsets (u + 1) i g)))
    (λ u l. period_le inst (group_tail_at tails (u + 1)) (moved u) plan (u + 1) fit (omega arith) (omega (arith, l))
    (ok (u + 1) (omega arith) (omega (arith, l)))) in
    subst (λ (z : ℤ). (z -ℤ pos (offset_cost inst tails offsets)) ≤ℤ risk_value inst starts) (sym (same ∙ by_period))
    less
