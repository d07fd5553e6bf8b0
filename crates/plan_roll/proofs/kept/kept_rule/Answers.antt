use Rattle.std.proofs.Common.{◌∙◌, sym}
use Rattle.plan_roll.proofs.BegunLemmas.{kept_is, none_is, late_is}
use Rattle.plan_roll.proofs.kept.kept_rule.Goals as goal

pub returns-in_default : goal.returns-in_default
returns-in_default c =
    sym (none_is c.args.inst.now c.args.plan.now c.args.period c.args.i c.in_default.is)

pub returns-then-s-period : goal.returns-then-s-period
returns-then-s-period c =
    c.start_rule.ensures
    ∙ sym (kept_is c.args.inst.now c.args.plan.now c.args.period c.args.i c.in-Some.s
    (record { given = c.in-Some.is; before = c.if-s-period.true }))

pub returns-else-s-period : goal.returns-else-s-period
returns-else-s-period c =
    sym (late_is c.args.inst.now c.args.plan.now c.args.period c.args.i c.in-Some.s c.in-Some.is c.if-s-period.false)
