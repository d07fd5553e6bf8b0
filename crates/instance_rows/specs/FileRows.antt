-- Defines the rows of a file: what it has of an instance, in its own words and order, before anything is looked up.
use Rattle.std.specs.Prelude.{ℕ, ℤ, List, map, flat_map}
use Rattle.json_grammar.specs.Tree.{Tree}
use Rattle.instance_shape.specs.declared.fault.Known.TheVariants as is
use Rattle.instance_shape.specs.declared.spot.Spot.TheVariants as spot
use Rattle.instance_shape.specs.Keys.{number_of}
use Rattle.instance_shape.specs.LookUp.{Entry, elements, entries, keys, known, whole_at, text_at, count_at, part_at}
use Rattle.instance_shape.specs.LookUp.{periods, scenarios}
use Rattle.instance_shape.specs.Shape.{placed}
use Rattle.instance_model.specs.RiskLists.{RiskRow}
use Rattle.instance_shape.specs.FileTables.{some_differs, rounded}

-- the limits of a resource, in counts of 10^-12
pub record BandRow : Type 0 where
  pub most : List ℤ
  pub least : List ℤ

-- a workload in a period, at a start
pub record LoadRow : Type 0 where
  pub period : ℕ
  pub start : ℕ
  pub load : ℤ

-- the workload of an intervention of one resource
pub record WorkloadRow : Type 0 where
  pub resource : List ℕ
  pub loads : List LoadRow

-- an intervention, with all of its durations
pub record WorkRow : Type 0 where
  pub tmax : ℕ
  pub durations : List ℕ
  pub workloads : List WorkloadRow
  pub risks : List RiskRow

-- the rows of a file; resources, seasons, interventions and exclusions are
-- their names, each with a row in the list behind
pub record FileRows : Type 0 where
  pub periods : ℕ
  pub alpha : ℕ
  pub quantile : ℕ
  pub scenarios : List ℕ
  pub resources : List (List ℕ)
  pub bands : List BandRow
  pub seasons : List (List ℕ)
  pub season_periods : List (List ℕ)
  pub interventions : List (List ℕ)
  pub works : List WorkRow
  pub exclusions : List (List ℕ)
  pub exclusion_words : List (List (List ℕ))
  pub rounded : ℕ

abbrev pub band_row : Tree → BandRow
band_row v =
    record { most = map count_at (elements (known is.Max v)); least = map count_at (elements (known is.Min v)) }

-- the workloads of one resource in one period
abbrev pub load_row : ℕ → Entry → LoadRow
load_row t e = record { period = t; start = number_of e.key; load = count_at e.value }

-- the workloads of one resource, by the keys of periods, then starts
abbrev pub load_rows : List Entry → List LoadRow
load_rows es = flat_map (λ e. map (load_row (number_of e.key)) (entries e.value)) es

abbrev pub workload_row : Entry → WorkloadRow
workload_row e = record { resource = e.key; loads = load_rows (entries e.value) }

-- a list of risks in a period
abbrev pub risk_row : ℕ → Entry → RiskRow
risk_row t e = record {
  period = t;
  start = number_of e.key;
  values = map count_at (elements e.value);
  soft = some_differs (elements e.value);
}

-- the lists of risks by the keys of periods, then starts
abbrev pub risk_rows : List Entry → List RiskRow
risk_rows es = flat_map (λ e. map (risk_row (number_of e.key)) (entries e.value)) es

abbrev pub work_row : Tree → WorkRow
work_row v = record {
  tmax = whole_at (known is.Tmax v);
  durations = map whole_at (elements (known is.Delta v));
  workloads = map workload_row (entries (known is.Workload v));
  risks = risk_rows (entries (known is.Risk v));
}

-- the rows of the values of some entries, in file order
abbrev pub each_value : {A : Type 0} → (Tree → A) → Tree → List A
each_value f t = map (λ e. f e.value) (entries t)

-- the rows of a text
abbrev pub rows_of : Tree → FileRows
rows_of root = record {
  periods = periods root;
  alpha = part_at (known is.Alpha root);
  quantile = part_at (known is.Quantile root);
  scenarios = scenarios root;
  resources = keys (known is.Resources root);
  bands = each_value band_row (known is.Resources root);
  seasons = keys (known is.Seasons root);
  season_periods = each_value (λ q. map whole_at (elements q)) (known is.Seasons root);
  interventions = keys (known is.Interventions root);
  works = each_value work_row (known is.Interventions root);
  exclusions = keys (known is.Exclusions root);
  exclusion_words = each_value (λ e. map text_at (elements e)) (known is.Exclusions root);
  rounded = rounded (placed spot.Root root);
}
