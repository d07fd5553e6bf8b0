use Rattle.std.proofs.Common.{◌≡◌, None}
use Rattle.instance_model.specs.Rules.{first_of, clash_rule_at}
use Rattle.plan_score.proofs.exclusions.broken_exclusion.Given as goal

abbrev pub invariant-loop-e : goal.invariant-loop-e
invariant-loop-e l = first_of l.e (clash_rule_at l.inst l.plan) ≡ None
