-- `roll` with an instance and a plan that are read: 0, 1, 12 or 11.
use Rattle.std.proofs.Common.{ℕ, inl, inr, List, [], ◌∷◌, Option, refl}
use Rattle.plan_desk.specs.Desk.{Shown}
use Rattle.instance_model.specs.declared.limits.Limits.{Limits}
use Rattle.instance_model.specs.Tables.{Tables}
use Rattle.command_frame.specs.Ending.{Answer, IsOneOf, NoFault}
use Rattle.command_frame.specs.Files.{by_bytes, OnPlan, TellsInstance, TellsPlan}
use Rattle.command_roll.specs.Rolling.{RollFiles, source_of, Rolls, AnswersRoll, RunsRoll}
use Rattle.command_roll.specs.Rolling.Rolls.{broken, too_long, written}
use Rattle.command_frame.specs.Completing.{Completes}
use Rattle.command_frame.proofs.CompleteReads.{told_instance, told_plan, on_instance, on_plan}
use Rattle.command_frame.proofs.CompleteLemmas.{completes}

statuses : (limits : Limits) (inst : Tables) (plan : List (Option ℕ)) (period : ℕ) (files : RollFiles) (a : Answer)
    → Rolls limits inst plan period files a → IsOneOf (0 ∷ 1 ∷ 12 ∷ []) a.status
statuses limits inst plan period files a (broken rule breaks first) = inr (inl refl)
statuses limits inst plan period files a (too_long allowed long) = inr (inr (inl refl))
statuses limits inst plan period files a (written allowed within) = inl refl

pub roll_completes : (limits : Limits) (files : RollFiles) (period : ℕ) (inst : Tables) (plan : List (Option ℕ))
    (old new : Shown) (status : ℕ)
    → RunsRoll limits files period old new status → TellsInstance limits old (source_of files) inst
    → TellsPlan limits old files.plan inst plan → NoFault old new
    → Completes (0 ∷ 1 ∷ 12 ∷ []) (Rolls limits inst plan period files) old new status
roll_completes limits files period inst plan old new status run tells tells_plan calm =
    let i = told_instance limits old (source_of files) inst tells in
    let p = told_plan limits old files.plan inst plan tells_plan in
    completes (0 ∷ 1 ∷ 12 ∷ []) (AnswersRoll limits by_bytes i.bytes p.bytes period files)
    (Rolls limits inst plan period files) old new status
    (λ a due. on_plan limits inst 3 p.bytes plan (λ q. Rolls limits inst q period files) a p.such
    (on_instance limits 0 2 i.bytes inst
    (λ x. OnPlan limits x by_bytes 3 p.bytes (λ q. Rolls limits x q period files)) a i.such due))
    (statuses limits inst plan period files) (run.exact i.bytes p.bytes i.tells p.tells calm)
