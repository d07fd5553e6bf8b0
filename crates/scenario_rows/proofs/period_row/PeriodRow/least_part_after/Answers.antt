use Rattle.std.proofs.Common.{sym, subst, ◌≤ℤ◌}
use Rattle.scenario_rows.specs.RiskStates.{PeriodState}
use Rattle.scenario_rows.specs.Parts.{part_of}
use Rattle.scenario_rows.specs.Shifts.{CanShift, shifted_period}
use Rattle.scenario_rows.proofs.period_row.PeriodRow.least_part_after.Goals as goal

pub least_part_after-requires-clause-can : goal.least_part_after-requires-clause-can
least_part_after-requires-clause-can g c =
    subst (λ (p : PeriodState). CanShift c.args.inst.now c.args.t c.args.runs.now p.sums) (sym c.self.view_is)
    c.requires

pub returns-clause-least : goal.returns-clause-least
returns-clause-least g c =
    subst
    (λ (p : PeriodState). c.least_part_after.result
    ≤ℤ part_of (shifted_period c.args.inst.now c.args.t c.args.runs.now p)) c.self.view_is
    c.least_part_after.ensures.least
