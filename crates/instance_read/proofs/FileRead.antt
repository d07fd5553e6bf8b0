-- What was read of a file that was taken in.
use Rattle.std.proofs.Common.{◌≡◌, ℕ, inr, List, [], Option, Some, None, option_map, refl, sym, ◌∙◌, ap}
use Rattle.std.proofs.Common.{subst}
use Rattle.std.specs.Prelude.{IfSome, IsSomeAnd, Result, Ok, Err}
use Rattle.plan_desk.specs.Desk.{Shown, Input, Fault, ShowsSame, after_take_in, all_read, file_taken}
use Rattle.plan_desk.specs.Contents.{HoldsBytes}
use Rattle.plan_desk.specs.Faults.{IsFaultOf, IsReadFaultOf}
use Rattle.plan_desk.specs.declared.call.DeskCall.TheVariants.{Read}
use Rattle.plan_desk.proofs.Composed.{fails_since}
use Rattle.instance_read.specs.Fed.{HasRest}
use Rattle.instance_read.specs.Reading.{ReadsFile, CountsStreamFault}
use Rattle.instance_read.specs.declared.fault.StreamFault.{StreamFault}
use Rattle.instance_read.specs.declared.fault.StreamFault.TheVariants as stream

-- a file of this name was taken in, which holds these bytes
pub record IsTaken (name held : List ℕ) (old mid : Shown) : Type 0 where
  pub holds : HoldsBytes old name held
  pub shows : ShowsSame mid (after_take_in name held old)

-- the bytes that were read are those of the file
pub file_read : (name held : List ℕ) (limit : ℕ) (old mid : Shown) (P : List ℕ → Type 0) → IsTaken name held old mid
    → HasRest mid.input.unread limit P → ReadsFile name limit old P
file_read name held limit old mid P t h = record {
  bytes = h.bytes;
  within = h.within;
  such = h.such;
  held = told old.input.unread old.output.holds
      (subst (λ (i : Input). IfSome i.unread (λ rest. rest ≡ h.bytes)) t.shows.input h.are) t.holds;
}
  where
    such_held : (o : Option (List ℕ)) → held ≡ h.bytes → o ≡ Some held → IsSomeAnd o (λ x. x ≡ h.bytes)
    such_held None e i = cc
    such_held (Some x) e i = cc

    told : (unread : Option (List ℕ)) (holds : Option (List ℕ → Option (List ℕ)))
        → IfSome (option_map (λ _. held) unread) (λ rest. rest ≡ h.bytes) → IfSome holds (λ f. f name ≡ Some held)
        → IfSome unread (λ _. IfSome holds (λ f. IsSomeAnd (f name) (λ x. x ≡ h.bytes)))
    told None holds e i = tt
    told (Some u) None e i = tt
    told (Some u) (Some f) e i = such_held (f name) e i

-- a file that was read to its end has no unread bytes
pub all_of_taken : (name held : List ℕ) (old mid new : Shown) → IsTaken name held old mid → ShowsSame new (all_read mid)
    → ShowsSame new (after_take_in name [] old)
all_of_taken name held old mid new t e = record {
  input = e.input ∙ ap (λ (i : Input). record i { unread = option_map (λ _. []) i.unread }) t.shows.input
      ∙ (λ j. record (file_taken name [] old.input) { unread = none_left old.input.unread j });
  output = e.output ∙ t.shows.output;
  said = e.said ∙ t.shows.said;
}
  where
    none_left : (o : Option (List ℕ)) → option_map {U = List ℕ} (λ _. []) (option_map (λ _. held) o) ≡ option_map {U =
        List ℕ} (λ _. []) o
    none_left None = refl
    none_left (Some xs) = refl

-- ---- faults

own_fault : (name : List ℕ) (of_file : Option (List ℕ)) (fault : Fault)
    → option_map (λ _. name) of_file ≡ Some fault.name → fault.name ≡ name
own_fault name None fault e = cc
own_fault name (Some x) fault e = cc

-- a fault of a read of the file that was taken in
own_read : (name held : List ℕ) (old mid : Shown) (last : Option Fault) → IsTaken name held old mid
    → IfSome last (IsFaultOf Read mid.input.name) → IfSome last (IsReadFaultOf name)
own_read name held old mid None t h = tt
own_read name held old mid (Some fault) t h =
    (inr h.0, own_fault name old.input.name fault (sym (ap (λ (i : Input). i.name) t.shows.input) ∙ h.1))

pub counts_read : {T : Type 0} (name held : List ℕ) (old mid new : Shown) (r : Result T StreamFault)
    → IsTaken name held old mid → mid.faults ≡ old.faults
    → CountsStreamFault mid new (IsFaultOf Read mid.input.name) r → CountsStreamFault old new (IsReadFaultOf name) r
counts_read name held old mid new (Err stream.Failed) t same h =
    fails_since old mid new same (record { one = h.one; own = own_read name held old mid new.faults.last t h.own })
counts_read name held old mid new (Err stream.TooLong) t same h = h ∙ same
counts_read name held old mid new (Err (stream.Text fault)) t same h = h ∙ same
counts_read name held old mid new (Err stream.Memory) t same h = h ∙ same
counts_read name held old mid new (Ok x) t same h = h ∙ same
