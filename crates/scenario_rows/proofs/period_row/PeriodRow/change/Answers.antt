use Rattle.std.proofs.Common.{◌≡◌, ◌∙◌, ◌+◌, sym, ap, subst, arith, ℕ, ℤ, List, length}
use Rattle.fixed_num.proofs.SumLemmas.{length-list_of}
use Rattle.instance_model.specs.RiskNumbers.{numbers_of}
use Rattle.instance_model.specs.Tables.{scenarios_of, risk_of}
use Rattle.scenario_rows.specs.RiskStates.{PeriodState}
use Rattle.scenario_rows.specs.Changes.{CanChange, changed_period}
use Rattle.scenario_rows.specs.Parts.{AreRowSums}
use Rattle.scenario_rows.proofs.RowLemmas.{length-changed_sums, changed_by-risks, length-changed_by, cost_period}
use Rattle.scenario_rows.proofs.period_row.PeriodRow.change.Goals as goal

pub change-requires-clause-each : goal.change-requires-clause-each
change-requires-clause-each g c =
    let can = subst (λ (p : PeriodState). CanChange c.args.inst.now c.args.change c.args.i c.args.s c.args.t p.sums)
    (sym c.self.view_is) c.requires.can in
    ap length c.risks-risks.ensures.value ∙ length-list_of (scenarios_of c.args.inst.now c.args.t) (λ k. risk_of
    c.args.inst.now c.args.i c.args.s c.args.t (k + 1)) ∙ sym can.each

pub change-requires-clause-small : goal.change-requires-clause-small
change-requires-clause-small g c =
    let can = subst (λ (p : PeriodState). CanChange c.args.inst.now c.args.change c.args.i c.args.s c.args.t p.sums)
    (sym c.self.view_is) c.requires.can in
    subst AreRowSums
    (sym (changed_by-risks c.args.inst.now c.args.change c.args.i c.args.s c.args.t (numbers_of c.risks-risks.result)
    c.self.inside.row c.risks-risks.ensures.value can.each)) can.row

pub part-self-inside-requires-clause-to : goal.part-self-inside-requires-clause-to
part-self-inside-requires-clause-to g c =
    omega (
      arith,
      c.self.invariant.sound.rank_to,
      ap length c.change.ensures.sums,
      length-changed_by c.args.change
          (numbers_of c.risks-risks.result) c.self.inside.row,
    )

pub invariant_of-self : goal.invariant_of-self
invariant_of-self g c =
    let can = subst (λ (p : PeriodState). CanChange c.args.inst.now c.args.change c.args.i c.args.s c.args.t p.sums)
    (sym c.self.view_is) c.requires.can in
    let e = c.change.ensures.sums ∙ changed_by-risks c.args.inst.now c.args.change c.args.i c.args.s c.args.t
    (numbers_of c.risks-risks.result) c.self.inside.row c.risks-risks.ensures.value can.each in
    record {
      sound = record {
        alpha = c.self.invariant.sound.alpha;
        rank_from = c.self.invariant.sound.rank_from;
        rank_to = omega (
          arith,
          c.self.invariant.sound.rank_to,
          ap length e,
          length-changed_sums c.args.inst.now c.args.change
              c.args.i c.args.s c.args.t c.self.inside.row,
        );
        sums = subst AreRowSums (sym e) can.row;
      };
      value = c.part-self-inside.ensures.value;
    }

pub returns-clause-value : goal.returns-clause-value
returns-clause-value g c =
    let can = subst (λ (p : PeriodState). CanChange c.args.inst.now c.args.change c.args.i c.args.s c.args.t p.sums)
    (sym c.self.view_is) c.requires.can in
    let e = c.change.ensures.sums ∙ changed_by-risks c.args.inst.now c.args.change c.args.i c.args.s c.args.t
    (numbers_of c.risks-risks.result) c.self.inside.row c.risks-risks.ensures.value can.each in
    ap (λ (xs : List ℤ). record { alpha = c.self.inside.alpha; rank = c.self.inside.rank; sums = xs }) e
    ∙ ap (λ (p : PeriodState). changed_period c.args.inst.now c.args.change c.args.i c.args.s c.args.t p) c.self.view_is

pub returns-clause-cost : goal.returns-clause-cost
returns-clause-cost g c =
    let can = subst (λ (p : PeriodState). CanChange c.args.inst.now c.args.change c.args.i c.args.s c.args.t p.sums)
    (sym c.self.view_is) c.requires.can in
    let n : scenarios_of c.args.inst.now c.args.t ≡ length c.args.self.now.sums = sym c.requires.can.each in
    cost_period g.R.Row.most c.args.steps.now c.risks-risks.new.steps c.change.new.steps c.part-self-inside.new.steps
    (length c.args.self.now.sums) (length c.self.inside.row)
    (c.risks-risks.ensures.cost ∙ ap (λ (k : ℕ). c.args.steps.now + k) n)
    (ap (λ (p : PeriodState). length p.sums) c.self.view_is) c.change.ensures.cost c.part-self-inside.ensures.cost
