use Rattle.std.proofs.Common.{◌≤◌, ℕ}
use Rattle.plan_table.specs.Reports.{report_of}
use Rattle.plan_table.specs.Laws.{ShowsNoFault}
use Rattle.worked_plans.proofs.tables.feasible.is_feasible.Given as goal

abbrev pub invariant-loop-u : goal.invariant-loop-u
invariant-loop-u l = (t : ℕ) → 1 ≤ t → t ≤ l.u → ShowsNoFault (report_of l.inst l.starts t)
