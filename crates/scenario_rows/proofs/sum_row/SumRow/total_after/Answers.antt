use Rattle.std.proofs.Common.{◌≡◌, ◌∙◌, ◌+◌, sym, ap, subst, arith, ℤ, get_or, drop, true, false}
use Rattle.instance_model.specs.RiskNumbers.{numbers_of}
use Rattle.instance_model.specs.Tables.{in_run}
use Rattle.scenario_rows.specs.Changes.{changed}
use Rattle.scenario_rows.specs.declared.change.Change.TheVariants.{Add}
use Rattle.scenario_rows.specs.declared.change.RunChange.{RunChange}
use Rattle.scenario_rows.specs.Shifts.{shifted_by}
use Rattle.scenario_rows.proofs.WayLemmas.{HasTotal, HasTotal-small, HasTotal-idle, HasTotal-running}
use Rattle.scenario_rows.proofs.sum_row.SumRow.total_after.Goals.{then-is_running, else-is_running}
use Rattle.scenario_rows.proofs.sum_row.SumRow.total_after.Goals as goal

abbrev none : RunChange
none = record { change = Add; i = 0; s = 0 }

pub total_after-total-requires : goal.total_after-total-requires
total_after-total-requires g c =
    HasTotal-small c.args.inst.now c.args.t (drop c.loop-one.one-index c.args.runs.now)
    (shifted_by c.args.inst.now c.args.t c.args.runs.now c.args.self.now)
    (get_or c.args.runs.now c.loop-one.one-index none).change c.loop-one.total c.risk_total.result
    c.loop-one.invariant.total c.risk_total.ensures.small

pub loop-one-preserved : goal.loop-one-preserved
loop-one-preserved g c = elim c.if-is_running.branch [
  | then-is_running w ↦
      let inst = c.args.inst.now in
      let runs = c.args.runs.now in
      let k = c.loop-one.one-index in
      let end = shifted_by inst c.args.t runs c.args.self.now in
      let running : in_run inst (get_or runs k none).i (get_or runs k none).s c.args.t ≡ true =
      sym c.is_running.ensures ∙ w.if-is_running.true in
      let sum = w.total-is ∙ w.total_after-total.ensures
      ∙ ap (changed (get_or runs k none).change c.loop-one.total) w.risk_total.ensures.value in
      record {
        total = HasTotal-running inst c.args.t runs k none end (numbers_of w.risks-risks.result) c.loop-one.total
            c.if-is_running.total (omega arith) c.loop-one.invariant.total running w.risks-risks.ensures.value
            w.risks-risks.ensures.each sum;
        forward = omega (arith, w.steps-is, w.risks-risks.ensures.cost, c.loop-one.invariant.forward);
      }
  | else-is_running w ↦
      let inst = c.args.inst.now in
      let runs = c.args.runs.now in
      let k = c.loop-one.one-index in
      let end = shifted_by inst c.args.t runs c.args.self.now in
      let idle : in_run inst (get_or runs k none).i (get_or runs k none).s c.args.t ≡ false =
      sym c.is_running.ensures ∙ w.if-is_running.false in
      record {
        total = subst (λ (s : ℤ). HasTotal inst c.args.t (drop (k + 1) runs) end s) (sym w.total-is)
            (HasTotal-idle inst c.args.t runs k none end c.loop-one.total (omega arith) c.loop-one.invariant.total
            idle);
        forward = omega (arith, w.steps-is, c.loop-one.invariant.forward);
      }
]
