-- `improve` with an instance and a plan, if one is given, that are read: 0, 9, 10 or 11.
use Rattle.std.proofs.Common.{ℕ, inl, inr, List, [], ◌∷◌, Option, refl}
use Rattle.plan_desk.specs.Desk.{Shown}
use Rattle.instance_model.specs.declared.limits.Limits.{Limits}
use Rattle.instance_model.specs.Tables.{Tables}
use Rattle.command_frame.specs.Sources.{Source}
use Rattle.command_frame.specs.Ending.{Answer, IsOneOf, NoFault}
use Rattle.command_frame.specs.Files.{by_bytes, OnGiven}
use Rattle.command_frame.specs.Completing.{Completes}
use Rattle.command_frame.proofs.CompleteReads.{told_instance, told_given, on_instance, on_given}
use Rattle.command_frame.proofs.CompleteLemmas.{completes}
use Rattle.command_improve.specs.Improving.{Improves, AnswersImprove, TellsImprove, RunsImprove}
use Rattle.command_improve.specs.Improving.Improves.{improved, nothing, no_start}

statuses : (limits : Limits) (inst : Tables) (given : Option (List (Option ℕ))) (out : List ℕ) (turns : ℕ) (a : Answer)
    → Improves limits inst given out turns a → IsOneOf (0 ∷ 9 ∷ 10 ∷ []) a.status
statuses limits inst given out turns a (improved plan is) = inl refl
statuses limits inst given out turns a (nothing violation is) = inr (inl refl)
statuses limits inst given out turns a (no_start i is) = inr (inr (inl refl))

pub improve_completes : (limits : Limits) (source : Source) (name : Option (List ℕ)) (out : List ℕ) (turns seed : ℕ)
    (inst : Tables) (plan : Option (List (Option ℕ))) (old new : Shown) (status : ℕ)
    → RunsImprove limits source name out turns seed old new status → TellsImprove limits old source name inst plan
    → NoFault old new
    → Completes (0 ∷ 9 ∷ 10 ∷ []) (Improves limits inst plan out turns) old new status
improve_completes limits source name out turns seed inst plan old new status run tells calm =
    let i = told_instance limits old source inst tells.instance in
    let p = told_given limits old name inst plan tells.plan_told in
    completes (0 ∷ 9 ∷ 10 ∷ []) (AnswersImprove limits by_bytes source.slack i.bytes p.bytes out turns)
    (Improves limits inst plan out turns) old new status
    (λ a due. on_given limits inst 3 p.bytes plan (λ given. Improves limits inst given out turns) a p.such
    (on_instance limits source.slack 2 i.bytes inst
    (λ x. OnGiven limits x by_bytes 3 p.bytes (λ given. Improves limits x given out turns)) a i.such due))
    (statuses limits inst plan out turns) (run.exact i.bytes p.bytes i.tells p.tells calm)
