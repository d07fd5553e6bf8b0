use Rattle.std.proofs.Common.{◌≡◌, ◌∙◌, sym, arith, subst, None, ℕ, length}
use Rattle.instance_model.specs.Rules.{first_of, clash_rule_at, first_clash_rule}
use Rattle.instance_model.proofs.FirstLemmas.{first_of-zero, first_of_pass, first_of_ends}
use Rattle.plan_score.proofs.exclusions.broken_exclusion.Goals as goal

pub loop-e-init : goal.loop-e-init
loop-e-init c = first_of-zero _

pub returns-in-Some : goal.returns-in-Some
unfolding first_clash_rule
returns-in-Some c =
    sym (first_of_ends c.loop-e.e _ (clash_rule_at c.args.inst.now c.args.plan.now) c.in-Some.rule (omega arith)
    c.loop-e.invariant (sym c.clash_rule.ensures ∙ c.in-Some.is))

pub loop-e-preserved : goal.loop-e-preserved
loop-e-preserved c = first_of_pass c.loop-e.e (clash_rule_at c.args.inst.now c.args.plan.now) c.loop-e.invariant
    (sym c.clash_rule.ensures ∙ c.in_default.is)

pub returns : goal.returns
unfolding first_clash_rule
returns c =
    let e : c.loop-e.e ≡ length c.args.inst.now.exclusion_names = omega arith in
    sym (subst (λ (n : ℕ). first_of n (clash_rule_at c.args.inst.now c.args.plan.now) ≡ None) e c.loop-e.invariant)
