-- Defines when an intervention has all that its tables need, and its tables.
use Rattle.std.specs.Prelude.{◌≡◌, ℕ, ◌+◌, ◌<◌, ◌≤◌, true, List, map, length, slice_index, slice_index_or, IsSome}
use Rattle.instance_model.specs.RiskLists.{RiskRow}
use Rattle.instance_model.specs.RunRisks.{no_list, runs_of}
use Rattle.instance_model.specs.Tables.{allowed_of}
use Rattle.instance_rows.specs.declared.fill.WorkTables.{WorkTables}
use Rattle.instance_rows.specs.FileRows.{WorkRow}
use Rattle.instance_rows.specs.Grid.{order_of, place_of}
use Rattle.instance_rows.specs.RowFaults.{used_durations}
use Rattle.instance_rows.specs.RowTables.{each_run, cells_at}
use Rattle.instance_rows.specs.Sound.{AreWorkloadsApart}

-- the lists of risks that the allowed runs of an intervention take, by start, then period
abbrev pub lists_taken : ℕ → WorkRow → List RiskRow
lists_taken periods w = map (λ k. slice_index_or w.risks k no_list) (order_of periods w)

-- an intervention has no more starts than there are periods, a list of risks in each period of an allowed run, and
-- workloads that are apart
pub record IsReady (periods : ℕ) (w : WorkRow) : Type 0 where
  pub starts : w.tmax ≤ periods
  pub lists : (k j : ℕ) → k < length (used_durations w) → allowed_of periods (used_durations w) (k + 1) ≡ true
      → j < slice_index (used_durations w) k → IsSome (place_of w.risks (k + 1) (k + 1 + j))
  pub apart : AreWorkloadsApart w.workloads

-- the tables of some interventions
pub record AreTablesOf (periods : ℕ) (resources : List (List ℕ)) (works : List WorkRow) (t : WorkTables) : Type 0 where
  pub delta : map (λ v. v.items) t.delta.items ≡ map used_durations works
  pub loads : map (λ v. v.items) t.loads.items
      ≡ map (λ w. each_run periods (used_durations w) (cells_at resources w.workloads)) works
  pub risks : map runs_of t.risks.items ≡ map (lists_taken periods) works
