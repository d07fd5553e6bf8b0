-- The counts of numbers are within their limits. Not part of any promise: only private functions cite it.
use Rattle.std.specs.Prelude.{◌≤◌}
use Rattle.instance_model.specs.declared.limits.Limits.{Limits}
use Rattle.shape_walk.specs.declared.counts.Counts.{Counts}

pub record AreWithin (limits : Limits) (counts : Counts) : Type 0 where
  pub risks : counts.risks ≤ limits.risk_cells
  pub workloads : counts.workloads ≤ limits.workload_entries
