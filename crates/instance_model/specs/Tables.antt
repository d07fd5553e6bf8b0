-- An instance as tables, and what is read from them. Periods, starts and scenarios count from 1; interventions,
-- resources, seasons and exclusions from 0. Risks, loads and limits are counts of 10^-12.
use Rattle.std.specs.Prelude.{ℕ, ◌+◌, ◌-◌, ◌*◌, ℤ, pos, Bool, false, ◌&&◌, List, [], sum, take, length, slice_index}
use Rattle.std.specs.Prelude.{slice_index_or, nat_le, nat_lt, ◌==◌, find, if◌then◌else◌, option_map, unwrap_or}
use Rattle.instance_model.specs.declared.parts.LoadCell.{LoadCell}
use Rattle.instance_model.specs.declared.parts.Exclusion.{Exclusion}
use Rattle.instance_model.specs.Naturals.{count_sum, ceil_div_of}

-- the tables of an instance; a name is the list of its bytes, alpha and quantile are in millionths
pub record Tables : Type 0 where
  pub periods : ℕ
  pub alpha : ℕ
  pub quantile : ℕ
  pub scenarios : List ℕ
  pub resource_names : List (List ℕ)
  pub upper : List ℤ
  pub lower : List ℤ
  pub season_names : List (List ℕ)
  pub in_season : List Bool
  pub names : List (List ℕ)
  pub delta : List (List ℕ)
  pub exclusion_names : List (List ℕ)
  pub excluded : List Exclusion
  pub loads : List (List LoadCell)
  pub risks : List ℤ
  pub soft : List Bool
  pub rounded : ℕ

-- how many scenarios period t has
unfoldable pub scenarios_of : Tables → ℕ → ℕ
scenarios_of inst t = slice_index inst.scenarios (t - 1)

-- the rank of the quantile in period t: the quantile times the number of scenarios, rounded up
unfoldable pub rank_of : Tables → ℕ → ℕ
rank_of inst t = ceil_div_of (inst.quantile * scenarios_of inst t) 1_000_000

-- ---- starts and runs

-- the durations of intervention i, by start
unfoldable pub durations : Tables → ℕ → List ℕ
durations inst i = slice_index_or inst.delta i []

-- the number of starts of intervention i
unfoldable pub tmax : Tables → ℕ → ℕ
tmax inst i = length (durations inst i)

-- the duration of intervention i at start s, in periods
unfoldable pub delta_of : Tables → ℕ → ℕ → ℕ
delta_of inst i s = slice_index (durations inst i) (s - 1)

-- start s is one of those with these durations, and its run ends within the horizon
unfoldable pub allowed_of : ℕ → List ℕ → ℕ → Bool
allowed_of periods ds s = nat_le 1 s && nat_le s (length ds) && nat_le (s + slice_index ds (s - 1)) (periods + 1)

-- intervention i may start at s
unfoldable pub is_allowed : Tables → ℕ → ℕ → Bool
is_allowed inst i s = allowed_of inst.periods (durations inst i) s

-- period t is in the run of intervention i at start s
unfoldable pub in_run : Tables → ℕ → ℕ → ℕ → Bool
in_run inst i s t = nat_le s t && nat_lt t (s + delta_of inst i s)

-- ---- lists by intervention, allowed start and period of the run

-- how many entries an intervention has at one start, where before t are those of a whole horizon before period t
unfoldable pub entries_at : Tables → (ℕ → ℕ) → ℕ → ℕ → ℕ
entries_at inst before i s = if is_allowed inst i s then before (s + delta_of inst i s) - before s else 0

-- how many entries an intervention has
unfoldable pub entries_of : Tables → (ℕ → ℕ) → ℕ → ℕ
entries_of inst before i = count_sum (tmax inst i) (λ k. entries_at inst before i (k + 1))

-- how many entries all interventions have
unfoldable pub all_entries : Tables → (ℕ → ℕ) → ℕ
all_entries inst before = count_sum (length inst.names) (entries_of inst before)

-- how many entries stand before those of intervention i at start s
unfoldable pub entries_before : Tables → (ℕ → ℕ) → ℕ → ℕ → ℕ
entries_before inst before i s =
    count_sum i (entries_of inst before) + count_sum (s - 1) (λ k. entries_at inst before i (k + 1))

-- the place of the first entry of intervention i at start s in period t
unfoldable pub entry_place : Tables → (ℕ → ℕ) → ℕ → ℕ → ℕ → ℕ
entry_place inst before i s t = entries_before inst before i s + (before t - before s)

-- how many scenarios the periods before t have together
unfoldable pub scenarios_before : Tables → ℕ → ℕ
scenarios_before inst t = sum (take (t - 1) inst.scenarios)

-- how many periods stand before t
unfoldable pub periods_before : ℕ → ℕ
periods_before t = t - 1

-- the place of the risk of intervention i at start s, in period t and scenario k
unfoldable pub risk_place : Tables → ℕ → ℕ → ℕ → ℕ → ℕ
risk_place inst i s t k = entry_place inst (scenarios_before inst) i s t + (k - 1)

-- that risk
unfoldable pub risk_of : Tables → ℕ → ℕ → ℕ → ℕ → ℤ
risk_of inst i s t k = slice_index_or inst.risks (risk_place inst i s t k) (pos 0)

-- one of the risk numbers of intervention i at start s in period t was changed by rounding
unfoldable pub soft_of : Tables → ℕ → ℕ → ℕ → Bool
soft_of inst i s t = slice_index_or inst.soft (entry_place inst periods_before i s t) false

-- ---- loads, bands, seasons and exclusions

-- a load cell is that of a start, a period and a resource
abbrev pub is_cell_of : ℕ → ℕ → ℕ → LoadCell → Bool
is_cell_of s t c cell = (cell.start == s) && (cell.period == t) && (cell.resource == c)

-- the workload of resource c in period t of intervention i at start s: 0 where there is no cell
unfoldable pub load_of : Tables → ℕ → ℕ → ℕ → ℕ → ℤ
load_of inst i s c t =
    unwrap_or (option_map (λ cell. cell.load) (find (is_cell_of s t c) (slice_index_or inst.loads i []))) (pos 0)

-- the upper limit of resource c in period t
unfoldable pub upper_of : Tables → ℕ → ℕ → ℤ
upper_of inst c t = slice_index_or inst.upper (c * inst.periods + (t - 1)) (pos 0)

-- the lower limit of resource c in period t
unfoldable pub lower_of : Tables → ℕ → ℕ → ℤ
lower_of inst c t = slice_index_or inst.lower (c * inst.periods + (t - 1)) (pos 0)

-- period t belongs to season q
unfoldable pub in_season_of : Tables → ℕ → ℕ → Bool
in_season_of inst q t = slice_index_or inst.in_season (q * inst.periods + (t - 1)) false

-- exclusion e
unfoldable pub exclusion_of : Tables → ℕ → Exclusion
exclusion_of inst e = slice_index_or inst.excluded e (record { first = 0; second = 0; season = 0 })
