use Rattle.std.proofs.Common.{◌≤◌, drop}
use Rattle.scenario_rows.specs.Shifts.{shifted_by}
use Rattle.scenario_rows.proofs.WayLemmas.{HasTotal}
use Rattle.scenario_rows.proofs.sum_row.SumRow.total_after.Given as goal

abbrev pub invariant-loop-one : goal.invariant-loop-one
invariant-loop-one g l = record {
  total : HasTotal l.inst l.t (drop l.one-index l.runs) (shifted_by l.inst l.t l.runs l.self) l.total;
  forward : l.fn.steps ≤ l.steps;
}
