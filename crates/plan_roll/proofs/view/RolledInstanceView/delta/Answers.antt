use Rattle.std.proofs.Common.{◌∙◌, sym, ap, ◌+◌}
use Rattle.plan_roll.proofs.StartLemmas.{delta_is, delta_left, delta_past}
use Rattle.plan_roll.proofs.view.RolledInstanceView.delta.Goals as goal

pub returns-then-may_start : goal.returns-then-may_start
returns-then-may_start c =
    let r = c.args.self.now in
    c.delta.ensures.value
    ∙ sym (delta_is r.inst.now r.plan.now r.period c.args.i c.args.s c.requires.number c.requires.from c.requires.to
    ∙ delta_left r.inst.now r.plan.now r.period c.args.i c.args.s (sym c.may_start.ensures ∙ c.if-may_start.true))

pub returns-else-may_start : goal.returns-else-may_start
returns-else-may_start c =
    let r = c.args.self.now in
    ap (λ n. n + 1) c.periods.ensures.value
    ∙ sym (delta_is r.inst.now r.plan.now r.period c.args.i c.args.s c.requires.number c.requires.from c.requires.to
    ∙ delta_past r.inst.now r.plan.now r.period c.args.i c.args.s (sym c.may_start.ensures ∙ c.if-may_start.false))
