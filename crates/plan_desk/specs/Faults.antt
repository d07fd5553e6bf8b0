-- When a call or a loop over a desk fails, and what the desk then tells of it.
use Rattle.std.specs.Prelude.{◌≡◌, ◌⊎◌, ℕ, ◌+◌, ◌-◌, ◌^◌, Bool, true, false, List, [], Option, Some, Result, Ok, Err}
use Rattle.std.specs.Prelude.{OnOk, OnErr, IfSome, min, if◌then◌else◌}
use Rattle.plan_desk.specs.declared.call.DeskCall.{DeskCall}
use Rattle.plan_desk.specs.declared.call.DeskCall.TheVariants.{TakeIn, Read, Say}
use Rattle.plan_desk.specs.declared.call.Failed.{Failed}
use Rattle.plan_desk.specs.declared.read_fault.ReadFault.{ReadFault}
use Rattle.plan_desk.specs.declared.read_fault.ReadFault.TheVariants.{Failed as FailedRead, TooLong, Memory}
use Rattle.plan_desk.specs.Desk.{Shown, Fault}

-- the count with one more fault, which stops at its last value
abbrev pub one_more : ℕ → ℕ
one_more count = min (count + 1) (2 ^ 64 - 1)

-- the count after a call that failed or not
abbrev pub count_after : Bool → ℕ → ℕ
count_after failed count = if failed then one_more count else count

-- this call is a `say`
abbrev pub is_say : DeskCall → Bool
is_say Say = true
is_say _ = false

-- a fault of this call at the file of this name
abbrev pub IsFaultOf : DeskCall → Option (List ℕ) → Fault → Type 0
IsFaultOf call name fault = (fault.call ≡ call) × (name ≡ Some fault.name)

-- a `take_in` or a `read` of the file of this name
abbrev pub IsReadFaultOf : List ℕ → Fault → Type 0
IsReadFaultOf name fault = ((fault.call ≡ TakeIn) ⊎ (fault.call ≡ Read)) × (fault.name ≡ name)

-- one call failed between these two, and it was a `say` or it was not
pub record OneFails (say : Bool) (old new : Shown) : Type 0 where
  pub count : new.faults.count ≡ one_more old.faults.count
  pub of_say : new.faults.of_say ≡ count_after say old.faults.of_say

-- One call failed between these two, and the last fault, where told, is such a one. Nothing that calls a desk promises
-- this and makes another call after the one that failed, since that may fail too, and there would be two.
pub record FailsOnce (say : Bool) (Own : Fault → Type 0) (old new : Shown) : Type 0 where
  pub one : OneFails say old new
  pub own : IfSome new.faults.last Own

-- one call failed, a `say`
abbrev pub SayFails : (old new : Shown) → Type 0
SayFails = FailsOnce true (IsFaultOf Say (Some []))

-- `Failed` comes only of one failed call, which was a `say` or was not. With any other answer no call failed.
pub record CountsFault {T : Type 0} (say : Bool) (old new : Shown) (Own : Fault → Type 0) (result : Result T Failed)
    : Type 0 where
  pub same : OnOk result (new.faults ≡ old.faults)
  pub fails : OnErr result (FailsOnce say Own old new)

-- the same of a loop that reads a file, of whose answers only `Failed` is a fault of the desk
abbrev pub CountsReadFault : {T : Type 0} → (old new : Shown) (Own : Fault → Type 0) → Result T ReadFault → Type 0
CountsReadFault old new Own (Err FailedRead) = FailsOnce false Own old new
CountsReadFault old new Own (Err TooLong) = new.faults ≡ old.faults
CountsReadFault old new Own (Err Memory) = new.faults ≡ old.faults
CountsReadFault old new Own (Ok x) = new.faults ≡ old.faults
