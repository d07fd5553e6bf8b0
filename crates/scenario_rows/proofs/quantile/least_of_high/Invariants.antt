use Rattle.std.proofs.Common.{◌<◌, ◌≤◌, ℕ, pos, ◌≤ℤ◌, get_or}
use Rattle.instance_model.specs.Plans.{IsSmallSum}
use Rattle.scenario_rows.specs.Shifts.{shifted_by}
use Rattle.scenario_rows.proofs.quantile.least_of_high.Given as goal

abbrev pub invariant-loop-k : goal.invariant-loop-k
invariant-loop-k g l = record {
  least : (j : ℕ) → j < l.k → l.quantile ≤ℤ get_or (g.R.Row.sums l.row) j (pos 0)
      → l.least ≤ℤ get_or (shifted_by l.inst l.t l.runs (g.R.Row.sums l.row)) j (pos 0);
  small : IsSmallSum l.least;
  forward : l.fn.steps ≤ l.steps;
}
