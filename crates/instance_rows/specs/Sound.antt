-- Defines what is known of the rows of a text without a fault of shape.
use Rattle.std.specs.Prelude.{◌≡◌, ◌≢◌, ◌≤◌, List, [], ◌∷◌, None, find, length, AllPairs, bytes_eq}
use Rattle.instance_model.specs.Limits.{standard_limits}
use Rattle.instance_rows.specs.FileRows.{LoadRow, WorkloadRow, WorkRow, FileRows}
use Rattle.instance_rows.specs.RowTables.{is_load_at}

-- no two workloads have the same period and start
abbrev pub AreLoadsApart : List LoadRow → Type 0
AreLoadsApart [] = Unit {0}
AreLoadsApart (l ∷ ls) = (find (is_load_at l.period l.start) ls ≡ None) × AreLoadsApart ls

-- no two workloads name the same resource, and in each no two have the same period and start
abbrev pub AreWorkloadsApart : List WorkloadRow → Type 0
AreWorkloadsApart [] = Unit {0}
AreWorkloadsApart (w ∷ ws) =
    (find (λ v. bytes_eq w.resource v.resource) ws ≡ None) × AreLoadsApart w.loads × AreWorkloadsApart ws

abbrev pub AreWorksApart : List WorkRow → Type 0
AreWorksApart [] = Unit {0}
AreWorksApart (w ∷ ws) = AreWorkloadsApart w.workloads × AreWorksApart ws

-- a name has one row in the list behind, there are few of what is limited, and no two keys are the same
pub record AreSound (rows : FileRows) : Type 0 where
  pub few_periods : rows.periods ≤ standard_limits.periods
  pub few_resources : length rows.resources ≤ standard_limits.resources
  pub few_interventions : length rows.interventions ≤ standard_limits.interventions
  pub few_seasons : length rows.seasons ≤ standard_limits.seasons
  pub bands : length rows.bands ≡ length rows.resources
  pub works : length rows.works ≡ length rows.interventions
  pub resources : AllPairs (λ a b. a ≢ b) rows.resources
  pub workloads : AreWorksApart rows.works
