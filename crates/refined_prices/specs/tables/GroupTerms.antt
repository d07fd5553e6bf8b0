-- Risks by scenario, members that they can be weighed by, and offsets in the order of the groups.
use Rattle.std.specs.Prelude.{ℕ, ◌+◌, ◌-◌, ◌*◌, ◌<◌, ◌≤◌, ℤ, pos, ◌-ℤ◌, ◌*ℤ◌, List, length, Option, Some, None, All}
use Rattle.std.specs.Prelude.{slice_index, slice_index_or}
use Rattle.fixed_num.specs.Sums.{total}
use Rattle.refined_prices.specs.declared.member.Member.{Member}
use Rattle.refined_prices.specs.declared.group_tail.GroupTail.{GroupTail}
use Rattle.refined_prices.specs.Groups.{weight_in, least_group}

-- the risk of scenario k, of those of all scenarios
abbrev pub risk_in : List ℤ → ℕ → ℤ
risk_in risks k = slice_index_or risks (k - 1) (pos 0)

-- members with scenarios of these risks, and weights that come to at most 1000
pub record AreWeighable (risks : List ℤ) (group : List Member) : Type 0 where
  pub from : All (λ x. 1 ≤ x.scenario) group
  pub to : All (λ x. x.scenario ≤ length risks) group
  pub weights : weight_in group ≤ 1000

-- offsets for so many groups stand from a place on
pub record AreOffsetsFrom (count : ℕ) (offsets : List ℕ) (from : ℕ) : Type 0 where
  pub within : from + count ≤ length offsets
  pub small : (g : ℕ) → g < count → slice_index offsets (from + g) ≤ 1_000_000_000

-- what a tail adds for these risks, by scenario, under the offsets of its groups
unfoldable pub listed_part : List ℤ → (ℕ → ℕ) → Option GroupTail → ℤ
listed_part risks offset None = pos 0
listed_part risks offset (Some tail) =
    (pos (length risks) *ℤ least_group (risk_in risks) (λ g. 1_000_000_000_000 * offset g) tail)
    -ℤ (pos tail.weight *ℤ total risks)
