-- What a text leaves behind that is written, or said, by one call or by several: whole, or to where a call failed.
use Rattle.std.specs.Prelude.{◌≡◌, ℕ, ◌<◌, Bool, true, false, List, [], length, take, Some, Result, OnOk, OnErr}
use Rattle.plan_desk.specs.declared.call.DeskCall.TheVariants.{Write, Say}
use Rattle.plan_desk.specs.declared.call.Failed.{Failed}
use Rattle.plan_desk.specs.Desk.{Shown, Fault, ShowsSame, after_write, after_say}
use Rattle.plan_desk.specs.Faults.{CountsFault, IsFaultOf}

-- how a text goes out: it is written to the file that is open, or it is said
pub data Way : Type 0 where
  writing : Way
  saying : Way

-- this text went out
abbrev pub after_text : Way → List ℕ → Shown → Shown
after_text writing text s = after_write text s
after_text saying text s = after_say text s

-- the call by which it goes out is a `say`
abbrev pub is_said : Way → Bool
is_said writing = false
is_said saying = true

-- a fault of that call
abbrev pub IsFaultIn : Way → Shown → Fault → Type 0
IsFaultIn writing s fault = IsFaultOf Write s.output.name fault
IsFaultIn saying s fault = IsFaultOf Say (Some []) fault

-- a first part of the text went out, not all of it, and nothing else
abbrev pub PutsPart : Way → List ℕ → (old new : Shown) → Type 0
PutsPart way text old new = (n : ℕ) × (n < length text) × ShowsSame new (after_text way (take n text) old)

-- The whole text went out and nothing else; or, where a call failed, a first part of it, not all. A file that it is
-- written to is still open.
pub record PutsText {T : Type 0} (way : Way) (text : List ℕ) (old new : Shown) (result : Result T Failed) : Type 0 where
  pub ok : OnOk result (ShowsSame new (after_text way text old))
  pub err : OnErr result (PutsPart way text old new)
  pub faults : CountsFault (is_said way) old new (IsFaultIn way old) result

-- a text is written to the file that is open
abbrev pub WritesText : {T : Type 0} → List ℕ → (old new : Shown) → Result T Failed → Type 0
WritesText text old new result = PutsText writing text old new result

-- a text is said
abbrev pub SaysText : {T : Type 0} → List ℕ → (old new : Shown) → Result T Failed → Type 0
SaysText text old new result = PutsText saying text old new result

-- a first part of the text was written to the file that is open, not all of it, and nothing else
abbrev pub WritesPart : List ℕ → (old new : Shown) → Type 0
WritesPart text old new = PutsPart writing text old new

-- The whole text went out, and no call failed: what holds between the calls of a function that puts a text out by
-- several.
pub record HasPut (way : Way) (text : List ℕ) (old new : Shown) : Type 0 where
  pub shows : ShowsSame new (after_text way text old)
  pub same : new.faults ≡ old.faults
