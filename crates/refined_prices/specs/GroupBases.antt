-- The base of a start under tails by groups, its share of the score, and what the offsets cost.
use Rattle.std.specs.Prelude.{ℕ, ◌+◌, ◌-◌, ◌*◌, ℤ, pos, ◌+ℤ◌, ◌-ℤ◌, ◌*ℤ◌, List, length, Option, Some, None}
use Rattle.std.specs.Prelude.{if◌then◌else◌}
use Rattle.fixed_num.specs.Floors.{floor_of}
use Rattle.fixed_num.specs.Sums.{sum_below}
use Rattle.instance_model.specs.Naturals.{count_sum}
use Rattle.instance_model.specs.Tables.{Tables, scenarios_of, in_run, risk_of}
use Rattle.refined_prices.specs.declared.group_tail.GroupTail.{GroupTail}
use Rattle.refined_prices.specs.declared.offset.Offset.{Offset}
use Rattle.refined_prices.specs.Groups.{least_group, greatest_below}
use Rattle.refined_prices.specs.Offsets.{group_tail_at, group_count, offset_of}

-- what a tail adds for the numbers f 1, .., f n: n * (the least over its groups) - its weight * (the sum of f)
unfoldable pub group_part : ℕ → (ℕ → ℤ) → (ℕ → ℕ) → Option GroupTail → ℤ
group_part n f offset None = pos 0
group_part n f offset (Some tail) =
    (pos n *ℤ least_group f offset tail) -ℤ (pos tail.weight *ℤ sum_below n (λ k. f (k + 1)))

-- 1000 n times the weighted mean and tail, for the numbers f 1, .., f n, alpha in millionths
unfoldable pub group_weighed : ℕ → ℕ → (ℕ → ℤ) → (ℕ → ℕ) → Option GroupTail → ℤ
group_weighed alpha n f offset tail =
    (pos (1000 * alpha) *ℤ sum_below n (λ k. f (k + 1))) +ℤ (pos (1_000_000 - alpha) *ℤ group_part n f offset tail)

-- the term of intervention i at start s in period t, under its offsets by group: one floor of the whole fraction
unfoldable pub group_term_of : Tables → Option GroupTail → (ℕ → ℕ) → ℕ → ℕ → ℕ → ℤ
group_term_of inst tail offset i s t =
    floor_of (group_weighed inst.alpha (scenarios_of inst t) (risk_of inst i s t)
    (λ g. 1_000_000_000_000 * offset g) tail) (1000 * scenarios_of inst t)

-- the base of a start: the sum of its terms over its run
unfoldable pub group_base_of : Tables → List (Option GroupTail) → List Offset → ℕ → ℕ → ℤ
group_base_of inst tails offsets i s =
    sum_below inst.periods
    (λ u. if in_run inst i s (u + 1)
    then group_term_of inst (group_tail_at tails (u + 1)) (offset_of offsets (u + 1) i) i s (u + 1) else pos 0)

-- the greatest, over the groups of period t, of the sum of all offsets of a group
unfoldable pub offset_most : Tables → List (Option GroupTail) → List Offset → ℕ → ℕ
offset_most inst tails offsets t =
    greatest_below (group_count (group_tail_at tails t))
    (λ g. count_sum (length inst.names) (λ i. offset_of offsets t i g))

-- what the offsets cost, whatever the starts are
unfoldable pub offset_cost : Tables → List (Option GroupTail) → List Offset → ℕ
offset_cost inst tails offsets =
    count_sum inst.periods (λ u. (1_000_000 - inst.alpha) * 1_000_000_000 * offset_most inst tails offsets (u + 1))
