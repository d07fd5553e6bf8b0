-- Cliques: interventions of which any two exclude each other in one period, and what the price of a clique adds.
use Rattle.std.specs.Prelude.{◌≡◌, ℕ, ◌+◌, ◌<◌, ◌≤◌, ◌⊎◌, Bool, false, ◌||◌, ◌&&◌, ◌==◌, List, [], ◌∷◌, length, map}
use Rattle.std.specs.Prelude.{Some, All, AllPairs, IsTrue, if◌then◌else◌}
use Rattle.std.specs.Cmp.Lexicographic.{slice_cmp}
use Rattle.std.specs.Ordering.{is_lt, nat_cmp}
use Rattle.instance_model.specs.declared.parts.Exclusion.{Exclusion}
use Rattle.instance_model.specs.Tables.{Tables, in_run, in_season_of, exclusion_of}
use Rattle.instance_model.specs.Plans.{is_running}
use Rattle.instance_model.specs.Rules.{KeepsRules}
use Rattle.refined_prices.specs.declared.clique.Clique.{Clique}

-- ---- exclusions

-- an exclusion names two interventions, in either order
abbrev pub Names : Exclusion → ℕ → ℕ → Type 0
Names exclusion i j =
    ((exclusion.first ≡ i) × (exclusion.second ≡ j)) ⊎ ((exclusion.first ≡ j) × (exclusion.second ≡ i))

-- exclusion e names interventions i and j, and its season has period t
pub record Excludes (inst : Tables) (e t i j : ℕ) : Type 0 where
  pub season : IsTrue (in_season_of inst (exclusion_of inst e).season t)
  pub names : Names (exclusion_of inst e) i j

-- interventions i and j exclude each other in period t
pub record ExcludeEachOther (inst : Tables) (t i j : ℕ) : Type 0 where
  pub exclusion : ℕ
  pub number : exclusion < length inst.exclusion_names
  pub excludes : Excludes inst exclusion t i j

-- ---- cliques

-- a set of interventions, in ascending order, any two of which exclude each other in period t
pub record AreClique (inst : Tables) (t : ℕ) (members : List ℕ) : Type 0 where
  pub numbers : All (λ i. i < length inst.names) members
  pub ascend : AllPairs (λ i j. i < j) members
  pub apart : AllPairs (ExcludeEachOther inst t) members

-- two interventions in ascending order that exclude each other in period t
pub record ArePair (inst : Tables) (t i j : ℕ) : Type 0 where
  pub before : i < j
  pub apart : ExcludeEachOther inst t i j

-- a clique in a period, with a price that isn't 0
pub record IsPricedClique (inst : Tables) (x : Clique) : Type 0 where
  pub from : 1 ≤ x.period
  pub to : x.period ≤ inst.periods
  pub members : AreClique inst x.period x.members
  pub some : 1 ≤ x.value
  pub small : x.value ≤ 1_000_000_000

-- by period, then members in the order of lists of numbers: the first two that differ decide, or else the lengths do
abbrev pub CliqueBefore : Clique → Clique → Type 0
CliqueBefore a b = (a.period < b.period)
    ⊎ ((a.period ≡ b.period) × IsTrue (is_lt (slice_cmp nat_cmp a.members b.members)))

-- intervention i is one of these
unfoldable pub is_member : List ℕ → ℕ → Bool
is_member [] i = false
is_member (j ∷ members) i = (j == i) || is_member members i

-- ---- prices

-- what the price of a clique adds at a start of intervention i, in units of 10^12
unfoldable pub clique_share : Tables → Clique → ℕ → ℕ → ℕ
clique_share inst x i s = if is_member x.members i && in_run inst i s x.period then x.value else 0

-- what the prices of all cliques add
unfoldable pub clique_part : Tables → List Clique → ℕ → ℕ → ℕ
clique_part inst [] i s = 0
clique_part inst (x ∷ xs) i s = clique_share inst x i s + clique_part inst xs i s

-- their sum
unfoldable pub clique_total : List Clique → ℕ
clique_total [] = 0
clique_total (x ∷ xs) = x.value + clique_total xs

-- ---- laws

-- where a plan keeps the rules, at most one of a clique is in progress in its period
abbrev pub AtMostOneRuns : Tables → Type 0
AtMostOneRuns inst =
    (starts : List ℕ) (t : ℕ) (members : List ℕ) (i j : ℕ) → length starts ≡ length inst.names
    → KeepsRules inst (map Some starts) → 1 ≤ t → t ≤ inst.periods → AreClique inst t members
    → IsTrue (is_member members i) → IsTrue (is_member members j)
    → IsTrue (is_running inst (map Some starts) i t) → IsTrue (is_running inst (map Some starts) j t) → i ≡ j

-- an intervention that an exclusion names twice isn't in progress in the periods of the season, where a plan keeps the
-- rules
abbrev pub NamedTwiceNeverRuns : Tables → Type 0
NamedTwiceNeverRuns inst =
    (starts : List ℕ) (t i : ℕ) → KeepsRules inst (map Some starts) → 1 ≤ t → t ≤ inst.periods
    → ExcludeEachOther inst t i i → ¬ IsTrue (is_running inst (map Some starts) i t)
