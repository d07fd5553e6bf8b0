use Rattle.std.proofs.Common.{◌≡◌, ◌∙◌, ◌+◌, sym, arith, subst, None, ℕ, length}
use Rattle.instance_model.specs.Rules.{first_of, band_rule_at, first_band_rule}
use Rattle.instance_model.proofs.FirstLemmas.{first_of-zero, first_of_pass, first_of_ends}
use Rattle.plan_score.proofs.bands.broken_band.Goals as goal

pub loop-c-init : goal.loop-c-init
loop-c-init c = first_of-zero _

pub returns-in-Some : goal.returns-in-Some
unfolding first_band_rule
returns-in-Some c =
    sym (first_of_ends c.loop-c.c _
    (λ d. first_of c.args.inst.now.periods (λ v. band_rule_at c.args.inst.now c.args.plan.now d (v + 1)))
    c.in-Some.rule (omega arith) c.loop-c.invariant (sym c.broken_band_of.ensures ∙ c.in-Some.is))

pub loop-c-preserved : goal.loop-c-preserved
loop-c-preserved c = first_of_pass c.loop-c.c
    (λ d. first_of c.args.inst.now.periods (λ v. band_rule_at c.args.inst.now c.args.plan.now d (v + 1)))
    c.loop-c.invariant (sym c.broken_band_of.ensures ∙ c.in_default.is)

pub returns : goal.returns
unfolding first_band_rule
returns c =
    let e : c.loop-c.c ≡ length c.args.inst.now.resource_names = omega arith in
    sym (subst
    (λ (n : ℕ).
    first_of n (λ d. first_of c.args.inst.now.periods (λ v. band_rule_at c.args.inst.now c.args.plan.now d (v + 1)))
    ≡ None) e c.loop-c.invariant)
