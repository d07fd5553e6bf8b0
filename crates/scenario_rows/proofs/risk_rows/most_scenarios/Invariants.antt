use Rattle.std.proofs.Common.{◌≤◌, ℕ}
use Rattle.instance_model.specs.Tables.{scenarios_of}
use Rattle.scenario_rows.proofs.risk_rows.most_scenarios.Given as goal

abbrev pub invariant-loop-u : goal.invariant-loop-u
invariant-loop-u l = (t : ℕ) → 1 ≤ t → t ≤ l.u → scenarios_of l.inst t ≤ l.most
