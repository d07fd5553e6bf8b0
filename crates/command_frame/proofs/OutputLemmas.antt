-- What a run leaves of the files, where each answer writes one file or none.
use Rattle.std.proofs.Common.{◌≡◌, ◌≢◌, inl, inr, ℕ, refl, sym, ◌∙◌, ap, subst, List, [], ◌∷◌}
use Rattle.std.proofs.lemmas.List.Elements.{All-nil, All-cons}
use Rattle.plan_desk.specs.Desk.{Shown, Output, TellsNames}
use Rattle.plan_desk.specs.Contents.{HoldsBytes}
use Rattle.plan_desk.specs.FileWrites.{FileWrite, after_writes}
use Rattle.command_frame.specs.Ending.{Writing, Answer, files_of, Ends}
use Rattle.command_frame.specs.Ending.Ends.{done, unsaid, unwritten}
use Rattle.command_frame.specs.Outputs.{holding, KeepsAllBut, Opens}
use Rattle.command_frame.proofs.HoldLemmas.{IsNoneOf, named_output, others_after, held_after, held_alike}
use Rattle.command_frame.proofs.HoldLemmas.{others_stopped, at_name}

pub same_holding : (old new : Shown) (name : List ℕ) → new.output ≡ old.output → holding new name ≡ holding old name
same_holding old new name same = ap (λ (o : Output). at_name name o.holds) same

-- ---- which files an answer writes

-- none but the one of this name
abbrev pub WritesOnly : List ℕ → List Writing → Type 0
WritesOnly out writes = (name : List ℕ) → name ≢ out → IsNoneOf name (files_of writes)

pub writes_none : (out : List ℕ) (writes : List Writing) → writes ≡ [] → WritesOnly out writes
writes_none out writes is name apart =
    subst (λ (w : List Writing). IsNoneOf name (files_of w)) (sym is) (All-nil (λ f. name ≢ f.name))

pub writes_one : (w : Writing) → WritesOnly w.file.name (w ∷ [])
writes_one w name apart = All-cons (λ f. name ≢ f.name) w.file [] apart (All-nil (λ f. name ≢ f.name))

-- ---- what a run leaves

module _ (Due : Shown → Answer → Type 0) (old new : Shown) where
  pub others_kept : (out : List ℕ) → ((at : Shown) (a : Answer) → Due at a → WritesOnly out a.writes) → (status : ℕ)
      → Ends Due old new status → KeepsAllBut out old new
  others_kept out only status (done n d) name apart =
      same_holding (after_writes (files_of d.answer.writes) old) new name d.writes
      ∙ others_after (files_of d.answer.writes) old name (only new d.answer d.due name apart)
  others_kept out only status (unsaid u) name apart =
      same_holding (after_writes (files_of u.answer.writes) old) new name u.writes
      ∙ others_after (files_of u.answer.writes) old name (only u.before u.answer u.due name apart)
  others_kept out only status (unwritten u) name apart =
      same_holding u.stopped new name u.output_is
      ∙ others_stopped (files_of u.answer.writes) u.n u.call u.before u.stopped name
      (only u.before u.answer u.due name apart) u.stops
      ∙ same_holding old u.before name u.output

  pub unopened_kept : ((a : Answer) → Due new a → (Opens a.status → ⊥) → a.writes ≡ []) → (status : ℕ)
      → Ends Due old new status → (Opens status → ⊥) → new.output ≡ old.output
  unopened_kept none status (done n d) opens =
      d.writes
      ∙ ap (λ (w : List Writing). (after_writes (files_of w) old).output)
      (none d.answer d.due (λ o. opens (subst Opens (sym d.status_is) o)))
  unopened_kept none status (unsaid u) opens = absurd (opens (inr (inl refl)))
  unopened_kept none status (unwritten u) opens = absurd (opens (inr (inl refl)))

  -- the file that was written holds its bytes
  pub one_held : (file : FileWrite) → TellsNames old → new.output ≡ (after_writes (file ∷ []) old).output
      → HoldsBytes new file.name file.bytes
  one_held file names writes =
      held_alike (after_writes (file ∷ []) old).output.holds new.output.holds file.name file.bytes
      (same_holding (after_writes (file ∷ []) old) new file.name writes)
      (held_after file [] old (named_output old names) (All-nil (λ f. file.name ≢ f.name)))
