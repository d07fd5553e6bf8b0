use Rattle.std.proofs.Common.{◌≡◌, ◌≤◌, drop}
use Rattle.scenario_rows.specs.Shifts.{CanShift, shifted_by}
use Rattle.scenario_rows.proofs.shift.shift_by_runs.Given as goal

abbrev pub invariant-loop-one : goal.invariant-loop-one
invariant-loop-one g l = record {
  can : CanShift l.inst l.t (drop l.one-index l.runs) l.sums;
  ends : shifted_by l.inst l.t (drop l.one-index l.runs) l.sums ≡ shifted_by l.inst l.t l.runs l.fn.sums;
  forward : l.fn.steps ≤ l.steps;
}
