use Rattle.std.proofs.Common.{◌≡◌, ◌∙◌, sym, arith, subst, None, Some, ℕ, length}
use Rattle.instance_model.specs.Rules.{first_of}
use Rattle.instance_model.proofs.FirstLemmas.{first_of-zero, first_of_pass, first_of_ends}
use Rattle.plan_roll.specs.Begun.{kept_rule_at, first_kept_rule}
use Rattle.plan_roll.proofs.BegunLemmas.{kept_exactly}
use Rattle.plan_roll.proofs.kept.kept_fault.Goals as goal

pub loop-i-init : goal.loop-i-init
loop-i-init c = first_of-zero _

pub loop-i-preserved : goal.loop-i-preserved
loop-i-preserved c = first_of_pass c.loop-i.i (kept_rule_at c.args.inst.now c.args.plan.now c.args.period)
    c.loop-i.invariant (sym c.kept_rule.ensures ∙ c.in_default.is)

found : goal.returns-in-Some-clause-rule
unfolding first_kept_rule
found c =
    sym (first_of_ends c.loop-i.i _ (kept_rule_at c.args.inst.now c.args.plan.now c.args.period) c.in-Some.rule
    (omega arith) c.loop-i.invariant (sym c.kept_rule.ensures ∙ c.in-Some.is))

none_found : goal.returns-clause-rule
unfolding first_kept_rule
none_found c =
    let e : c.loop-i.i ≡ length c.args.inst.now.names = omega arith in
    sym (subst (λ (n : ℕ). first_of n (kept_rule_at c.args.inst.now c.args.plan.now c.args.period) ≡ None) e
    c.loop-i.invariant)

pub returns-in-Some-clause-rule : goal.returns-in-Some-clause-rule
returns-in-Some-clause-rule c = found c

pub returns-in-Some-clause-none : goal.returns-in-Some-clause-none
returns-in-Some-clause-none c =
    kept_exactly c.args.inst.now c.args.plan.now c.args.period (Some c.in-Some.rule) (found c)

pub returns-clause-rule : goal.returns-clause-rule
returns-clause-rule c = none_found c

pub returns-clause-none : goal.returns-clause-none
returns-clause-none c = kept_exactly c.args.inst.now c.args.plan.now c.args.period None (none_found c)
