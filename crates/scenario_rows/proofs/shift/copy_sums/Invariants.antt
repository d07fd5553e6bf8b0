use Rattle.std.proofs.Common.{◌≡◌, ◌<◌, ℕ, pos, length, get_or}
use Rattle.scenario_rows.proofs.shift.copy_sums.Given as goal

abbrev pub invariant-loop-k : goal.invariant-loop-k
invariant-loop-k g l = record {
  each : length l.to ≡ length (g.R.Row.sums l.row);
  done : (j : ℕ) → j < l.k → get_or l.to j (pos 0) ≡ get_or (g.R.Row.sums l.row) j (pos 0);
}
