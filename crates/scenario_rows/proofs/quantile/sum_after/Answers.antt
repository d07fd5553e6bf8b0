use Rattle.std.proofs.Common.{◌≡◌, ◌∙◌, ◌+◌, sym, subst, arith, ℤ, get_or, drop, true, false}
use Rattle.instance_model.specs.Tables.{in_run}
use Rattle.scenario_rows.specs.declared.change.Change.TheVariants.{Add}
use Rattle.scenario_rows.specs.declared.change.RunChange.{RunChange}
use Rattle.scenario_rows.specs.Shifts.{shifted_by}
use Rattle.scenario_rows.proofs.WayLemmas.{HasSum, HasSum-small, HasSum-idle, HasSum-running}
use Rattle.scenario_rows.proofs.quantile.sum_after.Goals.{then-is_running, else-is_running}
use Rattle.scenario_rows.proofs.quantile.sum_after.Goals as goal

abbrev none : RunChange
none = record { change = Add; i = 0; s = 0 }

pub sum_after-sum-requires : goal.sum_after-sum-requires
sum_after-sum-requires g c =
    let inst = c.args.inst.now in
    let runs = c.args.runs.now in
    let n = c.loop-one.one-index in
    let running : in_run inst (get_or runs n none).i (get_or runs n none).s c.args.t ≡ true =
    sym c.is_running.ensures ∙ c.if-is_running.true in
    HasSum-small inst c.args.t runs n none (shifted_by inst c.args.t runs (g.R.Row.sums c.args.row.now)) c.args.k
    c.loop-one.sum c.risk_cell-risk.result (omega arith) c.loop-one.invariant.sum running c.risk_cell-risk.ensures.value

pub loop-one-preserved : goal.loop-one-preserved
loop-one-preserved g c = elim c.if-is_running.branch [
  | then-is_running w ↦
      let inst = c.args.inst.now in
      let runs = c.args.runs.now in
      let n = c.loop-one.one-index in
      let end = shifted_by inst c.args.t runs (g.R.Row.sums c.args.row.now) in
      let running : in_run inst (get_or runs n none).i (get_or runs n none).s c.args.t ≡ true =
      sym c.is_running.ensures ∙ w.if-is_running.true in
      record {
        sum = HasSum-running inst c.args.t runs n none end c.args.k c.loop-one.sum w.risk_cell-risk.result
            c.if-is_running.sum (omega arith) c.loop-one.invariant.sum running w.risk_cell-risk.ensures.value
            (w.sum-is ∙ w.sum_after-sum.ensures);
        forward = omega (arith, w.steps-is, w.risk_cell-risk.ensures.cost, c.loop-one.invariant.forward);
      }
  | else-is_running w ↦
      let inst = c.args.inst.now in
      let runs = c.args.runs.now in
      let n = c.loop-one.one-index in
      let end = shifted_by inst c.args.t runs (g.R.Row.sums c.args.row.now) in
      let idle : in_run inst (get_or runs n none).i (get_or runs n none).s c.args.t ≡ false =
      sym c.is_running.ensures ∙ w.if-is_running.false in
      record {
        sum = subst (λ (v : ℤ). HasSum inst c.args.t (drop (n + 1) runs) end c.args.k v) (sym w.sum-is)
            (HasSum-idle inst c.args.t runs n none end c.args.k c.loop-one.sum (omega arith) c.loop-one.invariant.sum
            idle);
        forward = omega (arith, w.steps-is, c.loop-one.invariant.forward);
      }
]
