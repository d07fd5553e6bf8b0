use Rattle.std.proofs.Common.{◌≤◌, drop}
use Rattle.scenario_rows.specs.Shifts.{shifted_by}
use Rattle.scenario_rows.proofs.WayLemmas.{HasSum}
use Rattle.scenario_rows.proofs.quantile.sum_after.Given as goal

abbrev pub invariant-loop-one : goal.invariant-loop-one
invariant-loop-one g l = record {
  sum : HasSum l.inst l.t (drop l.one-index l.runs) (shifted_by l.inst l.t l.runs (g.R.Row.sums l.row)) l.k l.sum;
  forward : l.fn.steps ≤ l.steps;
}
