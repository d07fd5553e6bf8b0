-- The order of groups, by which a refined price list has one text.
use Rattle.std.specs.Prelude.{ℕ, ◌<◌, ◌≤◌, ⊤, List, [], ◌∷◌, length, Option, Some, None, All, AllPairs}
use Rattle.refined_prices.specs.declared.member.Member.{Member}
use Rattle.refined_prices.specs.declared.group_tail.GroupTail.{GroupTail}
use Rattle.refined_prices.specs.RefinedLists.{RefinedList}

-- the first scenario of a group: 0 where it has none
abbrev pub first_scenario : List Member → ℕ
first_scenario [] = 0
first_scenario (x ∷ xs) = x.scenario

-- by the first scenario
abbrev pub GroupBefore : List Member → List Member → Type 0
GroupBefore a b = first_scenario a < first_scenario b

-- the groups of a tail ascend, where there is one
abbrev pub AreGroupsInOrder : Option GroupTail → Type 0
AreGroupsInOrder None = ⊤
AreGroupsInOrder (Some tail) = AllPairs GroupBefore tail.groups

-- the groups of each tail ascend, and no clique has fewer than two members
pub record IsInOrder (list : RefinedList) : Type 0 where
  pub groups : All AreGroupsInOrder list.tails
  pub members : All (λ x. 2 ≤ length x.members) list.cliques
