use Rattle.std.proofs.Common.{◌+◌, ◌<◌, ◌≤◌, ℕ, get_or}
use Rattle.scenario_rows.specs.declared.change.RunChange.{RunChange}
use Rattle.scenario_rows.specs.Shifts.{IsIdle}
use Rattle.scenario_rows.proofs.touched.next_touched.Given as goal

abbrev pub invariant-loop-one : goal.invariant-loop-one
invariant-loop-one l = record {
  from : l.t ≤ l.next;
  to : l.next ≤ l.inst.periods + 1;
  idle : (u : ℕ) → l.t ≤ u → u < l.next → (k : ℕ) (d : RunChange) → k < l.one-index
      → IsIdle l.inst u (get_or l.runs k d);
}
