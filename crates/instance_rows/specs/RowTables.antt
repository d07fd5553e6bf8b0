-- Defines the tables of the instance of a file by its rows.
use Rattle.std.specs.Prelude.{ℕ, ◌+◌, ℤ, ◌+ℤ◌, ◌-ℤ◌, Bool, false, ◌&&◌, ◌==◌, List, [], ◌∷◌, Option, Some, None, cond}
use Rattle.std.specs.Prelude.{find, map, flat_map, length, is_some, position, bytes_eq, slice_index, slice_index_or}
use Rattle.instance_model.specs.declared.parts.LoadCell.{LoadCell}
use Rattle.instance_model.specs.declared.parts.Exclusion.{Exclusion}
use Rattle.instance_model.specs.Tables.{Tables, allowed_of}
use Rattle.instance_shape.specs.FileTables.{lists_below, number_among}
use Rattle.instance_rows.specs.FileRows.{LoadRow, WorkloadRow, FileRows}
use Rattle.instance_model.specs.RiskLists.{RiskRow}
use Rattle.instance_rows.specs.RowFaults.{used_durations, is_list_at}

-- something for each allowed start and period of its run, in this order
abbrev pub each_run : {A : Type 0} → ℕ → List ℕ → (ℕ → ℕ → List A) → List A
each_run periods ds f =
    lists_below (length ds)
    (λ k. cond (allowed_of periods ds (k + 1)) (lists_below (slice_index ds k) (λ j. f (k + 1) (k + 1 + j))) [])

-- the numbers of a list of risks, if there is one
abbrev pub values_of : Option RiskRow → List ℤ
values_of None = []
values_of (Some r) = r.values

-- whether one of them differs from its count
abbrev pub soft_of : Option RiskRow → Bool
soft_of None = false
soft_of (Some r) = r.soft

-- the risks at start s in period t, by scenario
abbrev pub risks_at : List RiskRow → ℕ → ℕ → List ℤ
risks_at risks s t = values_of (find (is_list_at t s) risks)

abbrev pub soft_at : List RiskRow → ℕ → ℕ → List Bool
soft_at risks s t = soft_of (find (is_list_at t s) risks) ∷ []

-- a workload is that in period t at start s
abbrev pub is_load_at : ℕ → ℕ → LoadRow → Bool
is_load_at t s l = (l.period == t) && (l.start == s)

abbrev pub loads_of : Option WorkloadRow → List LoadRow
loads_of None = []
loads_of (Some w) = w.loads

-- the workload of a resource in period t at start s, if there is one
abbrev pub load_at : List WorkloadRow → List ℕ → ℕ → ℕ → Option LoadRow
load_at workloads resource t s = find (is_load_at t s) (loads_of (find (λ w. bytes_eq resource w.resource) workloads))

-- the load cell of a workload, if there is one
abbrev pub cell_of : ℕ → ℕ → ℕ → Option LoadRow → List LoadCell
cell_of s t c None = []
cell_of s t c (Some l) = record { start = s; period = t; resource = c; load = l.load } ∷ []

-- the load cells at start s in period t, in the order of the resources
abbrev pub cells_at : List (List ℕ) → List WorkloadRow → ℕ → ℕ → List LoadCell
cells_at resources workloads s t =
    lists_below (length resources) (λ c. cell_of s t c (load_at workloads (slice_index_or resources c []) t s))

-- whether period u + 1 is one of a season's
abbrev pub in_season : List ℕ → ℕ → List Bool
in_season periods u = is_some (position (λ n. n == u + 1) periods) ∷ []

abbrev pub exclusion_of : FileRows → List (List ℕ) → Exclusion
exclusion_of rows words = record {
  first = number_among rows.interventions (slice_index_or words 0 []);
  second = number_among rows.interventions (slice_index_or words 1 []);
  season = number_among rows.seasons (slice_index_or words 2 []);
}

-- the tables; each upper limit is raised and each lower limit lowered by the slack
abbrev pub rows_tables : ℤ → FileRows → Tables
rows_tables slack rows = record {
  periods = rows.periods;
  alpha = rows.alpha;
  quantile = rows.quantile;
  scenarios = rows.scenarios;
  resource_names = rows.resources;
  upper = flat_map (λ b. map (λ z. z +ℤ slack) b.most) rows.bands;
  lower = flat_map (λ b. map (λ z. z -ℤ slack) b.least) rows.bands;
  season_names = rows.seasons;
  in_season = flat_map (λ ps. lists_below rows.periods (in_season ps)) rows.season_periods;
  names = rows.interventions;
  delta = map used_durations rows.works;
  exclusion_names = rows.exclusions;
  excluded = map (exclusion_of rows) rows.exclusion_words;
  loads = map (λ w. each_run rows.periods (used_durations w) (cells_at rows.resources w.workloads)) rows.works;
  risks = flat_map (λ w. each_run rows.periods (used_durations w) (risks_at w.risks)) rows.works;
  soft = flat_map (λ w. each_run rows.periods (used_durations w) (soft_at w.risks)) rows.works;
  rounded = rows.rounded;
}
