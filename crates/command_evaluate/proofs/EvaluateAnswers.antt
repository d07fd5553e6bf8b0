-- The bytes of the files of `evaluate` have one answer.
use Rattle.std.proofs.Common.{ℕ, List, Option, refl, ap}
use Rattle.instance_model.specs.declared.limits.Limits.{Limits}
use Rattle.instance_model.specs.Tables.{Tables}
use Rattle.instance_model.specs.Rules.{first_rule}
use Rattle.command_frame.specs.Reports.{infeasible_report}
use Rattle.command_frame.specs.Ending.{reply, IsOneAnswer}
use Rattle.command_frame.specs.Files.{by_bytes, OnPlan}
use Rattle.command_answers.specs.Evaluate.{Judges, AnswersEvaluate}
use Rattle.command_answers.specs.Evaluate.Judges.{feasible, infeasible}
use Rattle.command_frame.proofs.AnswerLemmas.{one_rule, instance_once, plan_once}

judged_once : (inst : Tables) (plan : List (Option ℕ)) → IsOneAnswer (Judges inst plan)
judged_once inst plan a b (feasible k e) (feasible l f) = refl
judged_once inst plan a b (feasible k e) (infeasible r not first) = absurd (not k)
judged_once inst plan a b (infeasible r not first) (feasible l f) = absurd (not l)
judged_once inst plan a b (infeasible r not first) (infeasible q nor again) =
    ap (λ x. reply 1 (infeasible_report inst x)) (one_rule (first_rule inst plan) r q first again)

pub evaluated_once : (limits : Limits) (slack : ℕ) (instance plan : List ℕ)
    → IsOneAnswer (AnswersEvaluate limits by_bytes slack instance plan)
evaluated_once limits slack instance plan =
    instance_once limits slack 2 instance (λ inst. OnPlan limits inst by_bytes 3 plan (Judges inst))
    (λ inst. plan_once limits inst 3 plan (Judges inst) (judged_once inst))
