-- `solve` with an instance that is read: 0, 9, 10 or 11, and no 9 with turns for a tree of single plans.
use Rattle.std.proofs.Common.{ℕ, inl, inr, List, [], ◌∷◌, refl}
use Rattle.plan_desk.specs.Desk.{Shown}
use Rattle.instance_model.specs.declared.limits.Limits.{Limits}
use Rattle.instance_model.specs.Tables.{Tables}
use Rattle.command_frame.specs.Sources.{Source}
use Rattle.command_frame.specs.Ending.{Answer, IsOneOf, NoFault}
use Rattle.command_frame.specs.Files.{by_bytes, TellsInstance}
use Rattle.branch_search.specs.Turns.{AreEnough}
use Rattle.command_solve.specs.Solving.{SolveFiles, Solves, AnswersSolve, RunsSolve}
use Rattle.command_solve.specs.Solving.Solves.{found, nothing, none, no_start}
use Rattle.command_frame.specs.Completing.{Completes}
use Rattle.command_frame.proofs.CompleteReads.{told_instance, on_instance}
use Rattle.command_frame.proofs.CompleteLemmas.{completes}

statuses : (limits : Limits) (inst : Tables) (files : SolveFiles) (turns : ℕ) (a : Answer)
    → Solves limits inst files turns a → IsOneOf (0 ∷ 9 ∷ 10 ∷ []) a.status
statuses limits inst files turns a (found changes answer plan bound solved is checkable replayable evaluable) = inl refl
statuses limits inst files turns a (nothing changes answer bound solved is checkable replayable) = inr (inl refl)
statuses limits inst files turns a (none changes answer solved is checkable replayable) = inr (inr (inl refl))
statuses limits inst files turns a (no_start i without checkable) = inr (inr (inl refl))

statuses_enough : (limits : Limits) (inst : Tables) (files : SolveFiles) (turns : ℕ) → AreEnough inst turns
    → (a : Answer) → Solves limits inst files turns a → IsOneOf (0 ∷ 10 ∷ []) a.status
statuses_enough limits inst files turns enough a
    (found changes answer plan bound solved is checkable replayable evaluable) = inl refl
statuses_enough limits inst files turns enough a (nothing changes answer bound solved is checkable replayable) =
    absurd (is.too_few enough)
statuses_enough limits inst files turns enough a (none changes answer solved is checkable replayable) = inr (inl refl)
statuses_enough limits inst files turns enough a (no_start i without checkable) = inr (inl refl)

module _ (limits : Limits) (source : Source) (files : SolveFiles) (turns : ℕ) (inst : Tables) (old new : Shown)
    (status : ℕ) (run : RunsSolve limits source files turns old new status)
    (tells : TellsInstance limits old source inst) (calm : NoFault old new) where
  among : (list : List ℕ) → ((a : Answer) → Solves limits inst files turns a → IsOneOf list a.status)
      → Completes list (Solves limits inst files turns) old new status
  among list one =
      let i = told_instance limits old source inst tells in
      completes list (AnswersSolve limits by_bytes source.slack i.bytes files turns)
      (Solves limits inst files turns) old new status
      (λ a due. on_instance limits source.slack 2 i.bytes inst (λ x. Solves limits x files turns) a
      i.such due) one (run.exact i.bytes i.tells calm)

  pub solve_completes : Completes (0 ∷ 9 ∷ 10 ∷ []) (Solves limits inst files turns) old new status
  solve_completes = among (0 ∷ 9 ∷ 10 ∷ []) (statuses limits inst files turns)

  pub solve_completes_enough : AreEnough inst turns
      → Completes (0 ∷ 10 ∷ []) (Solves limits inst files turns) old new status
  solve_completes_enough enough = among (0 ∷ 10 ∷ []) (statuses_enough limits inst files turns enough)
