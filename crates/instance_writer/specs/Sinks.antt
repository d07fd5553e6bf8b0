-- Defines what the takers of a text have taken: a counter of bytes, bytes in memory, and a file in front of whose desk
-- bytes are kept.
use Rattle.std.specs.Prelude.{◌≡◌, ◌⊎◌, ℕ, ◌+◌, ◌^◌, ◌<◌, Bool, true, false, List, ◌++◌, length, Result, Err, IsErr}
use Rattle.std.specs.Prelude.{Option, None, option_map}
use Rattle.plan_desk.specs.declared.call.Failed.{Failed}
use Rattle.plan_desk.specs.Desk.{Shown}
use Rattle.plan_desk.specs.Written.{PutsText, HasPut}
use Rattle.plan_desk.specs.Written.Way.{writing}

-- a count of bytes, which is exact below 2 ^ 64
abbrev pub CountsText : List ℕ → (old new : ℕ) → Type 0
CountsText text old new = old + length text < 2 ^ 64 → new ≡ old + length text

-- bytes in memory, where there was enough of it: none once it was refused
abbrev pub AddsText : List ℕ → (old new : Option (List ℕ)) → Type 0
AddsText text old new = new ≡ option_map (λ bytes. bytes ++ text) old ⊎ new ≡ None

-- a file that is being written: what its desk shows, the bytes that were taken and aren't written yet, and whether a
-- write has failed
pub record Progress : Type 0 where
  pub shown : Shown
  pub kept : List ℕ
  pub failed : Bool

-- a text was taken, and no write failed: some bytes were written, and the rest is kept
pub record KeepsRest (text : List ℕ) (old new : Progress) : Type 0 where
  pub written : List ℕ
  pub whole : old.kept ++ text ≡ written ++ new.kept
  pub put : HasPut writing written old.shown new.shown

-- whether a write had failed before, and whether one has failed since
abbrev pub TakesAs : (before since : Bool) → List ℕ → (old new : Progress) → Type 0
TakesAs false false text old new = KeepsRest text old new
TakesAs false true text old new =
    (e : Failed) → PutsText {T = Unit {0}} writing (old.kept ++ text) old.shown new.shown (Err e)
TakesAs true true text old new = new.shown ≡ old.shown
TakesAs true false text old new = ⊥

-- A text was taken: after a failed write nothing more is written.
abbrev pub TakesText : List ℕ → (old new : Progress) → Type 0
TakesText text old new = TakesAs old.failed new.failed text old new

-- what is kept was written, unless a write had failed
abbrev pub EndsAs : {T : Type 0} → (failed : Bool) → Progress → Shown → Result T Failed → Type 0
EndsAs false progress new result = PutsText writing progress.kept progress.shown new result
EndsAs true progress new result = IsErr result × (new ≡ progress.shown)
