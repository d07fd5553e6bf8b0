use Rattle.std.proofs.Common.{◌∙◌, sym}
use Rattle.instance_model.specs.Rules.{first_rule, first_start_rule}
use Rattle.instance_model.proofs.FirstLemmas.{or_else-none}
use Rattle.instance_model.proofs.PlanLemmas.{RunsAreAllowed-from_none}
use Rattle.plan_score.proofs.verdict.judge.Goals as goal

pub plan_values-requires-clause-allowed : goal.plan_values-requires-clause-allowed
unfolding first_rule
plan_values-requires-clause-allowed c =
    RunsAreAllowed-from_none c.args.inst.now c.args.plan.now c.requires
    (or_else-none (first_start_rule c.args.inst.now c.args.plan.now) _
    (sym c.broken_rule.ensures ∙ c.in_default.is)).0

pub returns-clause-encloses : goal.returns-clause-encloses
unfolding first_rule
returns-clause-encloses c = λ f numbers reading.
    c.printed_values_enclose.ensures c.args.plan.now f numbers
    (RunsAreAllowed-from_none c.args.inst.now c.args.plan.now c.requires
    (or_else-none (first_start_rule c.args.inst.now c.args.plan.now) _
    (sym c.broken_rule.ensures ∙ c.in_default.is)).0) reading
