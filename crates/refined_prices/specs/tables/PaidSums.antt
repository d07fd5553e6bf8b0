-- What the prices of exclusions and cliques count for each intervention in each period.
use Rattle.std.specs.Prelude.{◌≡◌, ℕ, ◌+◌, ◌*◌, ◌<◌, ◌≤◌, ◌&&◌, List, [], ◌∷◌, length, ◌==◌, if◌then◌else◌, slice_index}
use Rattle.instance_model.specs.Tables.{Tables}
use Rattle.lagrange_bound.specs.ExSums.{ex_at, sum_place}
use Rattle.refined_prices.specs.declared.clique.Clique.{Clique}
use Rattle.refined_prices.specs.Cliques.{is_member}
use Rattle.refined_prices.specs.RefinedLists.{RefinedList}

-- what the price of a clique counts for intervention i in period t
abbrev pub clique_value : Clique → ℕ → ℕ → ℕ
clique_value x i t = if (x.period == t) && is_member x.members i then x.value else 0

-- what the prices of all cliques count
unfoldable pub clique_at : List Clique → ℕ → ℕ → ℕ
clique_at [] i t = 0
clique_at (x ∷ xs) i t = clique_value x i t + clique_at xs i t

-- numbers by intervention, then period, are those of a function
pub record AreByRun (inst : Tables) (f : ℕ → ℕ → ℕ) (numbers : List ℕ) : Type 0 where
  pub each : length numbers ≡ length inst.names * inst.periods
  pub at : (i t : ℕ) → i < length inst.names → 1 ≤ t → t ≤ inst.periods
      → slice_index numbers (sum_place inst i t) ≡ f i t

-- the sums are those of the prices of exclusions and cliques
abbrev pub ArePaid : Tables → RefinedList → List ℕ → Type 0
ArePaid inst list numbers =
    AreByRun inst (λ i t. ex_at inst list.prices.ex i t + clique_at list.cliques i t) numbers
