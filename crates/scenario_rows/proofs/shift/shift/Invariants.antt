use Rattle.std.proofs.Common.{◌≡◌, ◌<◌, ◌≤◌, ℕ, pos, length, get_or}
use Rattle.instance_model.specs.RiskNumbers.{numbers_of}
use Rattle.scenario_rows.specs.Changes.{changed}
use Rattle.scenario_rows.proofs.shift.shift.Given as goal

abbrev pub invariant-loop-k : goal.invariant-loop-k
invariant-loop-k l = record {
  each : length l.sums ≡ length l.fn.sums;
  done : (j : ℕ) → j < l.k
      → get_or l.sums j (pos 0) ≡ changed l.change (get_or l.fn.sums j (pos 0)) (get_or (numbers_of l.risks) j (pos 0));
  rest : (j : ℕ) → l.k ≤ j → get_or l.sums j (pos 0) ≡ get_or l.fn.sums j (pos 0);
}
