use Rattle.std.proofs.Common.{◌∙◌, sym, ap, subst, arith}
use Rattle.scenario_rows.specs.RiskStates.{PeriodState}
use Rattle.scenario_rows.specs.Parts.{part_of}
use Rattle.scenario_rows.specs.Shifts.{CanShift, shifted_period}
use Rattle.scenario_rows.proofs.ScoreLemmas.{part_of_small}
use Rattle.scenario_rows.proofs.ShiftLemmas.{length-shifted_by, shifted_by-row}
use Rattle.scenario_rows.proofs.period_row.PeriodRow.part_after.Goals as goal

pub part_after-requires-clause-can : goal.part_after-requires-clause-can
part_after-requires-clause-can g c =
    subst (λ (p : PeriodState). CanShift c.args.inst.now c.args.t c.args.runs.now p.sums) (sym c.self.view_is)
    c.requires.can

pub returns-clause-value : goal.returns-clause-value
returns-clause-value g c =
    c.part_after.ensures.value
    ∙ ap (λ (p : PeriodState). part_of (shifted_period c.args.inst.now c.args.t c.args.runs.now p)) c.self.view_is

pub returns-clause-small : goal.returns-clause-small
returns-clause-small g c =
    let can = subst (λ (p : PeriodState). CanShift c.args.inst.now c.args.t c.args.runs.now p.sums) (sym c.self.view_is)
    c.requires.can in
    let p = shifted_period c.args.inst.now c.args.t c.args.runs.now
    (record { alpha = c.self.inside.alpha; rank = c.self.inside.rank; sums = c.self.inside.row }) in
    rw c.part_after.ensures.value
    (part_of_small p (record {
      alpha = c.self.invariant.sound.alpha;
      rank_from = c.self.invariant.sound.rank_from;
      rank_to = omega (
        arith,
        c.self.invariant.sound.rank_to,
        length-shifted_by c.args.inst.now c.args.t c.args.runs.now c.self.inside.row,
      );
      sums = shifted_by-row c.args.inst.now c.args.t c.args.runs.now c.self.inside.row can.row can.stay;
    }))
