use Rattle.std.proofs.Common.{◌≡◌, ◌<◌, ◌≤◌, ℕ, pos, length, get_or}
use Rattle.scenario_rows.proofs.quantile.read_sums.Given as goal

abbrev pub invariant-loop-k : goal.invariant-loop-k
invariant-loop-k g l = record {
  each : length l.values ≡ length l.sums;
  done : (j : ℕ) → j < l.k → get_or l.values j (pos 0) ≡ get_or l.sums j (pos 0);
  forward : l.fn.steps ≤ l.steps;
}
