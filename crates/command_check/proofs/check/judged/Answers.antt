use Rattle.std.proofs.Common.{◌<◌, ◌^◌, ◌∙◌, sym, subst, arith, Some, ℤ, unsigned_abs}
use Rattle.fixed_num.proofs.SignedLemmas.{back_from_abs}
use Rattle.command_check.specs.declared.check.Given.TheVariants.{Kept}
use Rattle.command_check.specs.Standing.{StandsAs}
use Rattle.command_check.proofs.CheckLemmas.{allowed_runs, broken_stands, kept_stands}
use Rattle.command_check.proofs.check.judged.Goals as goal

pub plan_values-requires-clause-allowed : goal.plan_values-requires-clause-allowed
plan_values-requires-clause-allowed c =
    allowed_runs c.args.inst.now c.args.plan.now c.as_slice.result.now c.as_slice-in-None.result.now c.requires.each
    c.as_slice.ensures c.as_slice-in-None.ensures (sym c.broken_rule.ensures ∙ c.in-None.is)

pub returns-in-Some : goal.returns-in-Some
returns-in-Some c =
    broken_stands c.args.inst.now c.args.plan.now c.as_slice.result.now c.in-Some.rule c.as_slice.ensures
    (sym c.broken_rule.ensures ∙ c.in-Some.is)

pub returns-in_ok-values-in-None : goal.returns-in_ok-values-in-None
returns-in_ok-values-in-None c =
    let values = c.in_ok-values-in-None.values in
    let small : unsigned_abs values.score < 10 ^ 36 = omega (arith, c.in_ok-values-in-None.ensures.small) in
    subst (λ (z : ℤ). StandsAs c.args.inst.now (Some c.args.plan.now) (Kept (Some z)))
    (sym (back_from_abs values.score (omega (arith, small))))
    (kept_stands c.args.inst.now c.args.plan.now c.as_slice.result.now c.as_slice-in-None.result.now values
    c.requires.each c.as_slice.ensures c.as_slice-in-None.ensures
    (sym c.broken_rule.ensures ∙ c.in-None.is) c.in_ok-values-in-None.ensures.values small)
