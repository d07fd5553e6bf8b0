-- `evaluate` with an instance and a plan that are read: 0, 1 or 11.
use Rattle.std.proofs.Common.{ℕ, inl, inr, List, [], ◌∷◌, Option, refl}
use Rattle.plan_desk.specs.Desk.{Shown}
use Rattle.instance_model.specs.declared.limits.Limits.{Limits}
use Rattle.instance_model.specs.Tables.{Tables}
use Rattle.command_frame.specs.Sources.{Source}
use Rattle.command_frame.specs.Ending.{Answer, IsOneOf, NoFault}
use Rattle.command_frame.specs.Files.{by_bytes, OnPlan, TellsInstance, TellsPlan}
use Rattle.command_evaluate.specs.Evaluating.{RunsEvaluate}
use Rattle.command_answers.specs.Evaluate.{Judges, AnswersEvaluate}
use Rattle.command_answers.specs.Evaluate.Judges.{feasible, infeasible}
use Rattle.command_frame.specs.Completing.{Completes}
use Rattle.command_frame.proofs.CompleteReads.{told_instance, told_plan, on_instance, on_plan}
use Rattle.command_frame.proofs.CompleteLemmas.{completes}

statuses : (inst : Tables) (plan : List (Option ℕ)) (a : Answer) → Judges inst plan a → IsOneOf (0 ∷ 1 ∷ []) a.status
statuses inst plan a (feasible keeps encloses) = inl refl
statuses inst plan a (infeasible rule breaks first) = inr (inl refl)

pub evaluate_completes : (limits : Limits) (source : Source) (name : List ℕ) (inst : Tables) (plan : List (Option ℕ))
    (old new : Shown) (status : ℕ)
    → RunsEvaluate limits source name old new status → TellsInstance limits old source inst
    → TellsPlan limits old name inst plan → NoFault old new
    → Completes (0 ∷ 1 ∷ []) (Judges inst plan) old new status
evaluate_completes limits source name inst plan old new status run tells tells_plan calm =
    let i = told_instance limits old source inst tells in
    let p = told_plan limits old name inst plan tells_plan in
    completes (0 ∷ 1 ∷ []) (AnswersEvaluate limits by_bytes source.slack i.bytes p.bytes) (Judges inst plan)
    old new status
    (λ a due. on_plan limits inst 3 p.bytes plan (Judges inst) a p.such
    (on_instance limits source.slack 2 i.bytes inst
    (λ x. OnPlan limits x by_bytes 3 p.bytes (Judges x)) a i.such due))
    (statuses inst plan) (run.exact i.bytes p.bytes i.tells p.tells calm)
