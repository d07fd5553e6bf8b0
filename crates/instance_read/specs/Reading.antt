-- What a reading of an instance answers.
use Rattle.std.specs.Prelude.{◌≡◌, ◌⊎◌, ℕ, ◌+◌, ◌^◌, ◌<◌, ◌≤◌, false, List, [], drop, length, Result, Ok, Err, IfSome}
use Rattle.plan_desk.specs.Desk.{Shown, Fault, ShowsSame, after_take_in, after_failed_take_in}
use Rattle.plan_desk.specs.Faults.{FailsOnce}
use Rattle.plan_desk.specs.Contents.{WhereToldHolds, HoldsBytes}
use Rattle.instance_model.specs.declared.limits.Limits.{Limits}
use Rattle.instance_shape.specs.FileFaults.{HasFileFault}
use Rattle.instance_read.specs.Faults.{fault_of}
use Rattle.instance_read.specs.declared.fault.InstanceFault.{InstanceFault}
use Rattle.instance_read.specs.declared.fault.StreamFault.{StreamFault}
use Rattle.instance_read.specs.declared.fault.StreamFault.TheVariants as stream

-- an answer other than an instance is the fault of the bytes, or says that memory ran out
abbrev pub TellsFault : Limits → List ℕ → InstanceFault → Type 0
TellsFault limits bytes fault = IfSome (fault_of fault) (HasFileFault limits bytes)

-- the file of this name was read, its bytes are within a limit and such; they are what it holds, where told
pub record ReadsFile (name : List ℕ) (limit : ℕ) (old : Shown) (P : List ℕ → Type 0) : Type 0 where
  pub bytes : List ℕ
  pub within : length bytes ≤ limit
  pub such : P bytes
  pub held : WhereToldHolds old name (λ held. held ≡ bytes)

-- what a reading without an instance leaves: the file was not taken in, or so many first bytes of it were read, past
-- the limit by no more than one piece of 2 ^ 16 bytes; or it was read to its end
abbrev pub LeavesFile : List ℕ → (limit : ℕ) → (old new : Shown) → Type 0
LeavesFile name limit old new = ShowsSame new (after_failed_take_in old)
    ⊎ (((bytes : List ℕ)
    × ((count : ℕ)
    × ((count ≤ limit + 2 ^ 16)
    × (HoldsBytes old name bytes × ShowsSame new (after_take_in name (drop count bytes) old)))))
    ⊎ ShowsSame new (after_take_in name [] old))

-- how many bytes of a file were read where there is no instance: no more than the limit; where the file is too long,
-- past the limit by no more than one piece, of at most 2 ^ 16 bytes
abbrev pub IsCountAt : (limit : ℕ) → StreamFault → ℕ → Type 0
IsCountAt limit stream.TooLong count = (limit < count) × (count ≤ limit + 2 ^ 16)
IsCountAt limit stream.Failed count = count ≤ limit
IsCountAt limit (stream.Text fault) count = count ≤ limit
IsCountAt limit stream.Memory count = count ≤ limit

-- where such a reading stops: its file was not taken in, or so many first bytes of it were read
abbrev pub StopsAt : List ℕ → (limit : ℕ) → (old new : Shown) → StreamFault → Type 0
StopsAt name limit old new fault = ((fault ≡ stream.Failed) × ShowsSame new (after_failed_take_in old))
    ⊎ ((bytes : List ℕ)
    × ((count : ℕ)
    × (IsCountAt limit fault count
    × (HoldsBytes old name bytes × ShowsSame new (after_take_in name (drop count bytes) old)))))

-- `Failed` comes only of one call that failed, and the last fault, where told, is such a one; no other answer of any
abbrev pub CountsStreamFault : {T : Type 0} → (old new : Shown) (Own : Fault → Type 0) → Result T StreamFault → Type 0
CountsStreamFault old new Own (Err stream.Failed) = FailsOnce false Own old new
CountsStreamFault old new Own (Err stream.TooLong) = new.faults ≡ old.faults
CountsStreamFault old new Own (Err (stream.Text fault)) = new.faults ≡ old.faults
CountsStreamFault old new Own (Err stream.Memory) = new.faults ≡ old.faults
CountsStreamFault old new Own (Ok x) = new.faults ≡ old.faults
