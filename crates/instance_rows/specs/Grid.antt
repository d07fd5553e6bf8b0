-- Defines the grid of an intervention's lists of risks, and which of them its allowed runs take.
use Rattle.std.specs.Prelude.{◌≡◌, ℕ, ◌+◌, ◌*◌, ◌<◌, ◌≤◌, List, [], ◌∷◌, Option, Some, None, length, slice_index_or}
use Rattle.std.specs.List.{position_from}
use Rattle.instance_shape.specs.FileTables.{lists_below}
use Rattle.instance_rows.specs.declared.grid.Grid.{Grid}
use Rattle.instance_rows.specs.FileRows.{WorkRow}
use Rattle.instance_model.specs.RiskLists.{RiskRow}
use Rattle.instance_rows.specs.RowFaults.{used_durations, is_list_at}
use Rattle.instance_rows.specs.RowTables.{each_run}

-- the number of the first list in period t at start s, from 0, if there is one
abbrev pub place_of : List RiskRow → ℕ → ℕ → Option ℕ
place_of risks s t = position_from (is_list_at t s) 0 risks

-- places by start, then period, are those of the lists
abbrev pub HasPlaces : ℕ → ℕ → List (Option ℕ) → List RiskRow → Type 0
HasPlaces starts periods places risks =
    (s t : ℕ) → s < starts → t < periods → slice_index_or places (s * periods + t) None ≡ place_of risks (s + 1) (t + 1)

-- a grid has the places of the lists
pub record IsGridOf (risks : List RiskRow) (g : Grid) : Type 0 where
  pub few_starts : g.starts ≤ 512
  pub few_periods : g.periods ≤ 512
  pub size : length g.places.items ≡ g.starts * g.periods
  pub places : HasPlaces g.starts g.periods g.places.items risks

abbrev pub one_or_none : Option ℕ → List ℕ
one_or_none None = []
one_or_none (Some k) = k ∷ []

-- the numbers of the lists that the run at start s takes, by period
abbrev pub run_order : List RiskRow → ℕ → ℕ → List ℕ
run_order risks s d = lists_below d (λ j. one_or_none (place_of risks s (s + j)))

-- the numbers of the lists that the allowed runs with these durations take, by start, then period
abbrev pub runs_order : ℕ → List ℕ → List RiskRow → List ℕ
runs_order periods ds risks = each_run periods ds (λ s t. one_or_none (place_of risks s t))

-- of an intervention
abbrev pub order_of : ℕ → WorkRow → List ℕ
order_of periods w = runs_order periods (used_durations w) w.risks
