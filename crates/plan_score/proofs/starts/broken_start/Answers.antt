use Rattle.std.proofs.Common.{◌≡◌, ◌∙◌, sym, arith, subst, None, ℕ, length}
use Rattle.instance_model.specs.Plans.{start_of}
use Rattle.instance_model.specs.Rules.{first_of, start_rule_at, first_start_rule}
use Rattle.instance_model.proofs.FirstLemmas.{first_of-zero, first_of_pass, first_of_ends}
use Rattle.plan_score.proofs.starts.broken_start.Goals as goal

pub loop-i-init : goal.loop-i-init
loop-i-init c = first_of-zero _

pub returns-in-Some : goal.returns-in-Some
unfolding first_start_rule
returns-in-Some c =
    sym (first_of_ends c.loop-i.i _ (λ j. start_rule_at c.args.inst.now j (start_of c.args.plan.now j)) c.in-Some.rule
    (omega arith) c.loop-i.invariant (sym c.start_rule.ensures ∙ c.in-Some.is))

pub loop-i-preserved : goal.loop-i-preserved
loop-i-preserved c = first_of_pass c.loop-i.i (λ j. start_rule_at c.args.inst.now j (start_of c.args.plan.now j))
    c.loop-i.invariant (sym c.start_rule.ensures ∙ c.in_default.is)

pub returns : goal.returns
unfolding first_start_rule
returns c =
    let e : c.loop-i.i ≡ length c.args.inst.now.names = omega arith in
    sym (subst (λ (n : ℕ). first_of n (λ j. start_rule_at c.args.inst.now j (start_of c.args.plan.now j)) ≡ None) e
    c.loop-i.invariant)
