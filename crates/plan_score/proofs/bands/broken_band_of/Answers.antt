use Rattle.std.proofs.Common.{◌≡◌, ◌∙◌, ◌+◌, sym, arith, subst, None, ℕ}
use Rattle.instance_model.specs.Rules.{first_of, band_rule_at}
use Rattle.instance_model.proofs.FirstLemmas.{first_of-zero, first_of_pass, first_of_ends}
use Rattle.plan_score.proofs.bands.broken_band_of.Goals as goal

pub loop-u-init : goal.loop-u-init
loop-u-init c = first_of-zero _

pub returns-in-Some : goal.returns-in-Some
returns-in-Some c =
    sym (first_of_ends c.loop-u.u _ (λ v. band_rule_at c.args.inst.now c.args.plan.now c.args.c (v + 1)) c.in-Some.rule
    (omega arith) c.loop-u.invariant (sym c.band_rule.ensures ∙ c.in-Some.is))

pub loop-u-preserved : goal.loop-u-preserved
loop-u-preserved c = first_of_pass c.loop-u.u (λ v. band_rule_at c.args.inst.now c.args.plan.now c.args.c (v + 1))
    c.loop-u.invariant (sym c.band_rule.ensures ∙ c.in_default.is)

pub returns : goal.returns
returns c =
    let e : c.loop-u.u ≡ c.args.inst.now.periods = omega arith in
    sym (subst (λ (n : ℕ). first_of n (λ v. band_rule_at c.args.inst.now c.args.plan.now c.args.c (v + 1)) ≡ None) e
    c.loop-u.invariant)
