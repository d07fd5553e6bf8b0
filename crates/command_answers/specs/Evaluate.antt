-- The answer of `evaluate` to an instance and a plan.
use Rattle.std.specs.Prelude.{◌≡◌, ℕ, ℤ, List, Option, Some}
use Rattle.instance_model.specs.declared.limits.Limits.{Limits}
use Rattle.instance_model.specs.Tables.{Tables}
use Rattle.instance_model.specs.Rules.{first_rule, KeepsRules}
use Rattle.instance_model.specs.declared.rule.Rule.{Rule}
use Rattle.instance_model.specs.Exact.{IsReading, EnclosesReading}
use Rattle.command_frame.specs.Reports.{feasible_report, infeasible_report}
use Rattle.command_frame.specs.Ending.{Answer, reply}
use Rattle.command_frame.specs.Files.{Meeting, OnInstance, OnPlan}

-- the printed values of a plan enclose those of every choice of numbers that rounds to the numbers of the instance
abbrev pub EnclosesEveryReading : Tables → List (Option ℕ) → Type 0
EnclosesEveryReading inst plan =
    (f : ℕ) (numbers : List ℤ) → IsReading inst f numbers → EnclosesReading inst plan f numbers

-- to an instance and a plan: 0 where the plan keeps the rules, and else 1 with the first rule that it breaks
pub data Judges (inst : Tables) (plan : List (Option ℕ)) : Answer → Type 0 where
  feasible : KeepsRules inst plan → EnclosesEveryReading inst plan
      → Judges inst plan (reply 0 (feasible_report inst plan))
  infeasible : (rule : Rule) → (KeepsRules inst plan → ⊥) → first_rule inst plan ≡ Some rule
      → Judges inst plan (reply 1 (infeasible_report inst rule))

-- to two files, with a slack in 10^-12: the instance is word 2, and the plan word 3
abbrev pub AnswersEvaluate : Limits → Meeting → ℕ → (instance plan : List ℕ) → Answer → Type 0
AnswersEvaluate limits met slack instance plan =
    OnInstance limits slack met 2 instance (λ inst. OnPlan limits inst met 3 plan (Judges inst))
