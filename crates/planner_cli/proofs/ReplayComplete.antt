-- `replay` with an instance, a plan and a script that are read: 0, 1, 6 or 11.
use Rattle.std.proofs.Common.{ℕ, inl, inr, List, [], ◌∷◌, refl}
use Rattle.plan_desk.specs.Desk.{Shown}
use Rattle.instance_model.specs.declared.limits.Limits.{Limits}
use Rattle.command_frame.specs.Sources.{Source}
use Rattle.command_frame.specs.Ending.{Answer, IsOneOf, NoFault}
use Rattle.command_frame.specs.Files.{by_bytes, OnPlan, OnScript}
use Rattle.command_replay.specs.Replaying.{ScriptedPlan, TellsScripted, Replays, AnswersReplay, RunsReplay}
use Rattle.command_replay.specs.Replaying.Replays.{broken_start, ended, not_allowed, nothing_to_undo}
use Rattle.command_frame.specs.Completing.{Completes}
use Rattle.command_frame.proofs.CompleteReads.{told_instance, told_plan, told_script, on_instance, on_plan, on_script}
use Rattle.command_frame.proofs.CompleteLemmas.{completes}

statuses : (files : ScriptedPlan) (a : Answer) → Replays files.inst files.plan files.script a
    → IsOneOf (0 ∷ 1 ∷ 6 ∷ []) a.status
statuses files a (broken_start rule first) = inr (inl refl)
statuses files a (ended opening opens succeeds) = inl refl
statuses files a (not_allowed opening n opens fails) = inr (inr (inl refl))
statuses files a (nothing_to_undo opening n opens fails) = inr (inr (inl refl))

pub replay_completes : (limits : Limits) (source : Source) (name script_name : List ℕ) (files : ScriptedPlan)
    (old new : Shown) (status : ℕ)
    → RunsReplay limits source name script_name old new status
    → TellsScripted limits old source name script_name files → NoFault old new
    → Completes (0 ∷ 1 ∷ 6 ∷ []) (Replays files.inst files.plan files.script) old new status
replay_completes limits source name script_name files old new status run tells calm =
    let i = told_instance limits old source files.inst tells.instance in
    let p = told_plan limits old name files.inst files.plan tells.plan in
    let s = told_script limits old script_name files.inst files.script tells.script in
    completes (0 ∷ 1 ∷ 6 ∷ []) (AnswersReplay limits by_bytes source.slack i.bytes p.bytes s.bytes)
    (Replays files.inst files.plan files.script) old new status
    (λ a due. on_script limits files.inst 4 s.bytes files.script (Replays files.inst files.plan) a s.such
    (on_plan limits files.inst 3 p.bytes files.plan
    (λ q. OnScript limits files.inst by_bytes 4 s.bytes (Replays files.inst q)) a p.such
    (on_instance limits source.slack 2 i.bytes files.inst
    (λ x. OnPlan limits x by_bytes 3 p.bytes
    (λ q. OnScript limits x by_bytes 4 s.bytes (Replays x q))) a i.such due)))
    (statuses files) (run.exact i.bytes p.bytes s.bytes i.tells p.tells s.tells calm)
