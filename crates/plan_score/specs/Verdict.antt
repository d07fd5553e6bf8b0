-- Facts on one of the two verdicts.
use Rattle.instance_model.specs.declared.rule.Rule.{Rule}
use Rattle.plan_score.specs.declared.values.Values.{Values}
use Rattle.plan_score.specs.declared.verdict.Verdict.{Verdict}
use Rattle.plan_score.specs.declared.verdict.Verdict.TheVariants.{Feasible, Broken}

-- where the verdict is that the plan is feasible, this holds of its values
abbrev pub IfFeasible : Verdict → (Values → Type 0) → Type 0
IfFeasible (Feasible values) holds = holds values
IfFeasible (Broken rule) holds = Unit {0}

-- where the verdict is that a rule is broken, this holds of the rule
abbrev pub IfBroken : Verdict → (Rule → Type 0) → Type 0
IfBroken (Feasible values) holds = Unit {0}
IfBroken (Broken rule) holds = holds rule
