-- What a run of `rehearse` promises follows from its end.
use Rattle.std.proofs.Common.{ℕ, inl, inr, refl, sym, subst, List, [], ◌∷◌}
use Rattle.plan_desk.specs.Desk.{Shown}
use Rattle.plan_desk.specs.Contents.{Says, KeepsFiles}
use Rattle.command_frame.specs.Lines.{memory_line}
use Rattle.command_frame.specs.Ending.{Answer, reply, OrMemory, Ends, IsOneOf}
use Rattle.command_frame.specs.Ending.CountsRead.{none as counts_none}
use Rattle.command_frame.specs.Ending.OrMemory.{answers, no_memory}
use Rattle.command_frame.specs.Ending.Ends.{done, unsaid, unwritten}
use Rattle.command_frame.specs.Refusals.{SaysOrFails}
use Rattle.command_frame.proofs.EndLemmas.{reads_none, command_ends, memory_ends, ends_quiet, ends_behind, ends_exact}
use Rattle.instance_gen.specs.Drawn.{drawn_tables}
use Rattle.command_rehearse.specs.Rehearsing.{Rehearses, DueRehearse, BehindRehearse, RunsRehearse}
use Rattle.command_rehearse.specs.Rehearsing.Rehearses.{rehearsed}
use Rattle.command_rehearse.specs.Rehearsing.BehindRehearse.{rehearsed as behind_rehearsed}

module _ (seed count : ℕ) (old new : Shown) where
  abbrev Answers : Shown → Answer → Type 0
  Answers at = Rehearses (drawn_tables seed count)

  behind_is : (a : Answer) → Rehearses (drawn_tables seed count) a → Says a.text old new
      → BehindRehearse (drawn_tables seed count) old new a.status
  behind_is a (rehearsed summary is) says =
      behind_rehearsed (record { summary = summary; rehearsed = is; says = says })

  due_status : (a : Answer) → OrMemory (Rehearses (drawn_tables seed count)) a
      → IsOneOf (0 ∷ 8 ∷ 11 ∷ []) a.status
  due_status a (answers b (rehearsed summary is)) = inl refl
  due_status a no_memory = inr (inr (inl refl))

  status_is : (status : ℕ) → Ends (DueRehearse seed count) old new status → IsOneOf (0 ∷ 8 ∷ 11 ∷ []) status
  status_is status (done n d) = subst (IsOneOf (0 ∷ 8 ∷ 11 ∷ [])) (sym d.status_is) (due_status d.answer d.due)
  status_is status (unsaid u) = inr (inl refl)
  status_is status (unwritten u) = inr (inl refl)

  runs : (status : ℕ) → KeepsFiles old new → Ends (DueRehearse seed count) old new status
      → RunsRehearse seed count old new status
  runs status keeps ends =
      record {
        ends = ends;
        behind = ends_behind Answers (BehindRehearse (drawn_tables seed count) old new) old new status behind_is ends;
        allowed = status_is status ends;
        exact = λ calm.
            ends_exact Answers (Rehearses (drawn_tables seed count)) old new status (λ a is. is) calm ends;
        output = keeps;
        quiet = ends_quiet (DueRehearse seed count) old new status ends;
      }

  -- the summary was said, or saying it failed
  pub summary_runs : (text : List ℕ) (status : ℕ) → KeepsFiles old new
      → Rehearses (drawn_tables seed count) (reply 0 text) → SaysOrFails 0 text old new status
      → RunsRehearse seed count old new status
  summary_runs text status keeps is says =
      runs status keeps
      (command_ends Answers old old new 0 text status (λ goes a due. due) (reads_none old) keeps (counts_none refl) is says)

  -- memory ran out
  pub memory_runs : (status : ℕ) → KeepsFiles old new → SaysOrFails 11 memory_line old new status
      → RunsRehearse seed count old new status
  memory_runs status keeps says =
      runs status keeps (memory_ends Answers old old new status (reads_none old) keeps refl says)
