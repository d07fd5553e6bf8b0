-- The conditions on the tables of an instance.
use Rattle.std.specs.Prelude.{◌^◌, ◌≡◌, ℕ, ◌*◌, ◌<◌, ◌≤◌, List, [], ◌⊎◌, length, All, AllPairs, IsTrue, slice_index_or}
use Rattle.std.specs.Prelude.{unsigned_abs, ◌≢◌}
use Rattle.instance_model.specs.declared.parts.LoadCell.{LoadCell}
use Rattle.instance_model.specs.Limits.{standard_limits}
use Rattle.instance_model.specs.Naturals.{count_sum}
use Rattle.instance_model.specs.Tables.{Tables, is_allowed, in_run, scenarios_before, periods_before, all_entries}

-- a name has 1 to 128 bytes, none of them a blank or a control character
pub record IsName (bytes : List ℕ) : Type 0 where
  pub some : 0 < length bytes
  pub short : length bytes ≤ 128
  pub printed : All (λ b. (32 < b) × (b ≢ 127)) bytes

-- names of the right shape, of which no two are the same
pub record AreNames (limit : ℕ) (names : List (List ℕ)) : Type 0 where
  pub few : length names ≤ limit
  pub shaped : All IsName names
  pub apart : AllPairs (λ a b. a ≢ b) names

-- one key of a start, a period and a resource stands before another
abbrev pub KeyBefore : ℕ → ℕ → ℕ → ℕ → ℕ → ℕ → Type 0
KeyBefore s t c u v d = (s < u) ⊎ ((s ≡ u) × ((t < v) ⊎ ((t ≡ v) × (c < d))))

-- by start, then period, then resource
abbrev pub CellBefore : LoadCell → LoadCell → Type 0
CellBefore a b = KeyBefore a.start a.period a.resource b.start b.period b.resource

-- a cell of this start, period and resource
pub record HasKey (s t c : ℕ) (cell : LoadCell) : Type 0 where
  pub start : cell.start ≡ s
  pub period : cell.period ≡ t
  pub resource : cell.resource ≡ c

-- the load cells of intervention i: in strict order, only for allowed starts, periods of the run and known resources
pub record AreCells (inst : Tables) (i : ℕ) (cells : List LoadCell) : Type 0 where
  pub ordered : AllPairs CellBefore cells
  pub allowed : All (λ cell. IsTrue (is_allowed inst i cell.start)) cells
  pub running : All (λ cell. IsTrue (in_run inst i cell.start cell.period)) cells
  pub resources : All (λ cell. cell.resource < length inst.resource_names) cells
  pub small : All (λ cell. unsigned_abs cell.load < 10 ^ 20) cells

-- the tables are those of an instance within the standard limits
pub record IsFitting (inst : Tables) : Type 0 where
  pub some_periods : 1 ≤ inst.periods
  pub few_periods : inst.periods ≤ standard_limits.periods
  pub alpha : inst.alpha ≤ 1_000_000
  pub some_quantile : 1 ≤ inst.quantile
  pub quantile : inst.quantile ≤ 1_000_000
  pub scenarios_each : length inst.scenarios ≡ inst.periods
  pub scenarios_few : All (λ n. (1 ≤ n) × (n ≤ standard_limits.scenarios)) inst.scenarios
  pub resources : AreNames standard_limits.resources inst.resource_names
  pub upper_each : length inst.upper ≡ length inst.resource_names * inst.periods
  pub lower_each : length inst.lower ≡ length inst.resource_names * inst.periods
  pub upper_small : All (λ z. unsigned_abs z < 2 * 10 ^ 20) inst.upper
  pub lower_small : All (λ z. unsigned_abs z < 2 * 10 ^ 20) inst.lower
  pub seasons : AreNames standard_limits.seasons inst.season_names
  pub season_each : length inst.in_season ≡ length inst.season_names * inst.periods
  pub names : AreNames standard_limits.interventions inst.names
  pub delta_each : length inst.delta ≡ length inst.names
  pub delta_some : All (λ ds. (1 ≤ length ds) × (length ds ≤ inst.periods)) inst.delta
  pub delta_small : All (λ ds. All (λ d. d < 1_000_000_000) ds) inst.delta
  pub exclusions : AreNames standard_limits.exclusions inst.exclusion_names
  pub excluded_each : length inst.excluded ≡ length inst.exclusion_names
  pub excluded : All (λ e. (e.first < length inst.names) × (e.second < length inst.names)
      × (e.season < length inst.season_names)) inst.excluded
  pub loads_each : length inst.loads ≡ length inst.names
  pub cells : (i : ℕ) → i < length inst.names → AreCells inst i (slice_index_or inst.loads i [])
  pub loads_few : count_sum (length inst.names) (λ i. length (slice_index_or inst.loads i []))
      ≤ standard_limits.workload_entries
  pub risks_each : length inst.risks ≡ all_entries inst (scenarios_before inst)
  pub risks_few : length inst.risks ≤ standard_limits.risk_cells
  pub risks_small : All (λ z. unsigned_abs z < 10 ^ 20) inst.risks
  pub soft_each : length inst.soft ≡ all_entries inst periods_before
