use Rattle.std.proofs.Common.{ℕ, ◌+◌, ◌<◌, ◌≤◌, max, IsTrue}
use Rattle.duration_calendar.specs.Calendar.{IsAllowedIn}
use Rattle.instance_model.specs.Tables.{in_run}
use Rattle.branch_search.proofs.node_state.loads.periods_of.Given as goal

abbrev pub invariant-loop-s : goal.invariant-loop-s
invariant-loop-s l = record {
  within : l.s ≤ max l.fn.span.from (l.fn.span.to + 1);
  past : l.past ≤ l.inst.periods + 1;
  runs : (r t : ℕ) → r < l.s → IsAllowedIn l.inst l.i l.fn.span.from l.fn.span.to r → IsTrue (in_run l.inst l.i r t)
      → t < l.past;
}
