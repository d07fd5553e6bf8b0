-- What the tests of groups tell: members in their order, and which scenarios are taken.
use Rattle.std.specs.Prelude.{◌≡◌, ℕ, ◌<◌, ◌≤◌, Bool, false, ◌||◌, ◌==◌, List, [], ◌∷◌, All, slice_index_or}
use Rattle.refined_prices.specs.declared.member.Member.{Member}

-- a member may stand in a group of a period that has n scenarios, behind the member with scenario last
pub record IsNext (n last : ℕ) (x : Member) : Type 0 where
  pub above : last < x.scenario
  pub within : x.scenario ≤ n
  pub some_weight : 1 ≤ x.weight
  pub small_weight : x.weight ≤ 1000

-- scenario k is in a group
unfoldable pub has_scenario : List Member → ℕ → Bool
has_scenario [] k = false
has_scenario (x ∷ xs) k = (x.scenario == k) || has_scenario xs k

-- scenario k is in one of the groups
unfoldable pub in_groups : List (List Member) → ℕ → Bool
in_groups [] k = false
in_groups (group ∷ groups) k = has_scenario group k || in_groups groups k

-- no scenario of the group is taken, by flags by scenario
abbrev pub AreFree : List Bool → List Member → Type 0
AreFree taken group = All (λ x. slice_index_or taken x.scenario false ≡ false) group
