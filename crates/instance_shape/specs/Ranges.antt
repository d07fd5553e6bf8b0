-- Defines for which limits and which slack what a file defines is an instance.
use Rattle.std.specs.Prelude.{◌≤◌, ℤ, pos, ◌≤ℤ◌}
use Rattle.instance_model.specs.declared.limits.Limits.{Limits}
use Rattle.instance_model.specs.Limits.{standard_limits}

-- no limit on what stands in a file is above the standard one
pub record AreStandard (limits : Limits) : Type 0 where
  pub periods : limits.periods ≤ standard_limits.periods
  pub resources : limits.resources ≤ standard_limits.resources
  pub interventions : limits.interventions ≤ standard_limits.interventions
  pub scenarios : limits.scenarios ≤ standard_limits.scenarios
  pub seasons : limits.seasons ≤ standard_limits.seasons
  pub exclusions : limits.exclusions ≤ standard_limits.exclusions
  pub risk_cells : limits.risk_cells ≤ standard_limits.risk_cells
  pub workload_entries : limits.workload_entries ≤ standard_limits.workload_entries

-- a slack from 0 to 10^-3, in 10^-12
pub record IsSlack (slack : ℤ) : Type 0 where
  pub least : pos 0 ≤ℤ slack
  pub most : slack ≤ℤ pos 1_000_000_000
