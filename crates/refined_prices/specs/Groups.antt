-- Tails by groups: for one period, so many disjoint groups of scenarios with weights that in one group at least no
-- scenario sum of a plan is above the quantile.
use Rattle.std.specs.Prelude.{ℕ, zero, suc, ◌+◌, ◌≤◌, ◌≡◌, ◌≢◌, max, ℤ, pos, ◌+ℤ◌, ◌*ℤ◌, List, [], ◌∷◌, length, map}
use Rattle.std.specs.Prelude.{All, AllPairs, slice_index_or}
use Rattle.std.specs.List.{range_with_len}
use Rattle.lagrange_bound.specs.Least.{least_over, AscendAbove}
use Rattle.refined_prices.specs.declared.member.Member.{Member}
use Rattle.refined_prices.specs.declared.group_tail.GroupTail.{GroupTail}

-- group g
abbrev pub group_at : GroupTail → ℕ → List Member
group_at tail g = slice_index_or tail.groups g []

-- the scenarios of a group
abbrev pub scenarios_in : List Member → List ℕ
scenarios_in group = map (λ x. x.scenario) group

-- the sum of its weights
unfoldable pub weight_in : List Member → ℕ
weight_in [] = 0
weight_in (x ∷ xs) = x.weight + weight_in xs

-- ---- in range

-- scenarios of a period that has n, with weights that add up to this total
pub record IsGroup (n total : ℕ) (group : List Member) : Type 0 where
  pub ascend : AscendAbove 0 (scenarios_in group)
  pub within : All (λ k. k ≤ n) (scenarios_in group)
  pub some_weight : All (λ x. 1 ≤ x.weight) group
  pub small_weight : All (λ x. x.weight ≤ 1000) group
  pub adds_up : weight_in group ≡ total

-- no scenario is in both groups
abbrev pub AreDisjoint : List Member → List Member → Type 0
AreDisjoint a b = All (λ j. All (λ k. j ≢ k) (scenarios_in b)) (scenarios_in a)

-- a tail by groups for a period that has n scenarios, where the quantile has this rank: at least n - rank + 1 groups
pub record IsGroupTail (n rank : ℕ) (tail : GroupTail) : Type 0 where
  pub some_weight : 1 ≤ tail.weight
  pub small_weight : tail.weight ≤ 1000
  pub enough : n + 1 ≤ length tail.groups + rank
  pub groups : All (IsGroup n tail.weight) tail.groups
  pub apart : AllPairs AreDisjoint tail.groups

-- ---- sums over a group, and the least of them

-- the sum over a group of weight times f
unfoldable pub weighted_sum : (ℕ → ℤ) → List Member → ℤ
weighted_sum f [] = pos 0
weighted_sum f (x ∷ xs) = (pos x.weight *ℤ f x.scenario) +ℤ weighted_sum f xs

-- the least of f 0, .., f (n - 1): 0 where n is 0
abbrev pub least_below : ℕ → (ℕ → ℤ) → ℤ
least_below n f = least_over f (range_with_len 0 n)

-- the greatest of f 0, .., f (n - 1): 0 where n is 0
unfoldable pub greatest_below : ℕ → (ℕ → ℕ) → ℕ
greatest_below zero f = 0
greatest_below (suc n) f = max (greatest_below n f) (f n)

-- the least over the groups of a tail: of the weighted sum of f over a group and the group's offset
unfoldable pub least_group : (ℕ → ℤ) → (ℕ → ℕ) → GroupTail → ℤ
least_group f offset tail =
    least_below (length tail.groups) (λ g. weighted_sum f (group_at tail g) +ℤ pos (offset g))
