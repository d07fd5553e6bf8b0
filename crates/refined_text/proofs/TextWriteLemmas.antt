-- Lines that are written one after the other.
use Rattle.std.proofs.Common.{◌≡◌, List, [], ◌++◌, Result, Ok, Err, IsErr, sym, ◌∙◌, ap, subst, append_assoc}
use Rattle.plan_desk.specs.declared.call.Failed.{Failed}
use Rattle.plan_desk.specs.Desk.{Shown}
use Rattle.plan_desk.specs.Written.{PutsText, HasPut}
use Rattle.plan_desk.specs.Written.Way.{writing}
use Rattle.plan_desk.proofs.Written.{begins, cut, fails, grows, last, respelled}
use Rattle.refined_text.specs.declared.lines.line.RefinedLine.{RefinedLine}
use Rattle.refined_text.specs.text.Text.{text_of_refined}
use Rattle.refined_text.proofs.TextPieceLemmas.{refined-append}

-- these lines were written
abbrev pub HasLines : List RefinedLine → (old new : Shown) → Type 0
HasLines lines old new = HasPut writing (text_of_refined lines) old new

-- these lines are written by a call
abbrev pub PutsLines : {T : Type 0} → List RefinedLine → (old new : Shown) → Result T Failed → Type 0
PutsLines lines old new result = PutsText writing (text_of_refined lines) old new result

-- a last call writes what is left
pub lines_last : {T : Type 0} {old mid new : Shown} (r : Result T Failed) (xs ys : List RefinedLine)
    → HasLines xs old mid → PutsLines ys mid new r → PutsLines (xs ++ ys) old new r
lines_last r xs ys first puts = respelled writing (sym (refined-append xs ys)) (last writing r first puts)

-- a call failed, and more lines were to follow
pub lines_cut : {T U : Type 0} {e : Failed} {old new : Shown} (r : Result T Failed) → IsErr r
    → (xs ys : List RefinedLine) → PutsLines {T = U} xs old new (Err e) → PutsLines (xs ++ ys) old new r
lines_cut r is xs ys puts = respelled writing (sym (refined-append xs ys)) (cut writing r is (text_of_refined ys) puts)

-- ---- one step of a loop
pub nothing : (lines : List RefinedLine) (s : Shown) → lines ≡ [] → HasLines lines s s
nothing lines s e = subst (λ (ls : List RefinedLine). HasLines ls s s) (sym e) (begins writing s)

module _ (front more next : List RefinedLine) (step : next ≡ front ++ more) where
  pub step_on : {T : Type 0} {x : T} {old mid new : Shown} → HasLines front old mid → PutsLines more mid new (Ok x)
      → HasLines next old new
  step_on written puts = grows writing (ap text_of_refined step ∙ refined-append front more) written puts

  pub step_stops : {T U : Type 0} {e : Failed} {old mid new : Shown} (r : Result T Failed) → IsErr r
      → (rest whole : List RefinedLine) → whole ≡ next ++ rest → HasLines front old mid → PutsLines {T =
      U} more mid new (Err e) → PutsLines whole old new r
  step_stops r is rest whole f written puts =
      fails writing r is (text_of_refined rest)
      (ap text_of_refined f
      ∙ refined-append next rest
      ∙ ap (λ text. text ++ text_of_refined rest) (ap text_of_refined step ∙ refined-append front more)
      ∙ append_assoc (text_of_refined front) (text_of_refined more) (text_of_refined rest)) written puts
