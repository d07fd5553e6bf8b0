-- What is known of a reader with one piece more of a device's file, and of the fault that is told of the file.
use Rattle.std.proofs.Common.{◌≡◌, ◌≢◌, ℕ, ◌+◌, ◌≤◌, List, [], ◌++◌, length, take, Option, Some, None, refl, sym, subst}
use Rattle.std.proofs.Common.{length-append, arith}
use Rattle.std.specs.Prelude.{IfSome, IfErr, MatchResult, Result, Ok, Err}
use Rattle.plan_desk.specs.Desk.{Input, Shown, Fault, input_after_read}
use Rattle.plan_desk.specs.Contents.{IsCountAt}
use Rattle.plan_desk.specs.declared.read_fault.ReadFault.{ReadFault}
use Rattle.plan_desk.proofs.Unread.{read_on, end_of}
use Rattle.instance_model.specs.declared.limits.Limits.{Limits}
use Rattle.instance_read.specs.Fed.{HasRead, HasFed, HasRest}
use Rattle.instance_read.specs.Reading as stops
use Rattle.instance_read.specs.Reading.{CountsStreamFault}
use Rattle.instance_read.specs.PartFaults.{IsOfBytes}
use Rattle.instance_read.specs.declared.fault.InstanceFault.{InstanceFault}
use Rattle.instance_read.specs.declared.fault.StreamFault.{StreamFault}
use Rattle.instance_read.specs.declared.fault.StreamFault.TheVariants as stream
use Rattle.instance_read.specs.declared.reader.Reader.{Reader}

-- one piece more
pub fed_more : (old mid : Input) (count n : ℕ) (first before behind : Reader) (piece : List ℕ)
    → mid ≡ input_after_read count old → IfSome mid.unread (λ rest. (n ≤ length rest) × (piece ≡ take n rest))
    → length piece ≡ n
    → ((limits : Limits) (bytes : List ℕ) → HasRead limits before bytes → HasRead limits behind (bytes ++ piece))
    → HasFed old.unread count first before → HasFed old.unread (count + n) first behind
fed_more old mid count n first before behind piece shows next size feed h = record {
  bytes = h.bytes ++ piece;
  size = omega (arith, length-append h.bytes piece, h.size);
  are = read_on old mid count n [] h.bytes (h.bytes ++ piece) piece shows h.are next refl;
  read = λ limits r. feed limits h.bytes (h.read limits r);
}

-- the end of the file is reached
pub fed_all : (old mid : Input) (count limit : ℕ) (first reader : Reader) → mid ≡ input_after_read count old
    → IfSome mid.unread (λ rest. rest ≡ []) → count ≤ limit → HasFed old.unread count first reader
    → HasRest old.unread limit (λ bytes. (limits : Limits) → HasRead limits first [] → HasRead limits reader bytes)
fed_all old mid count limit first reader shows end within h = record {
  bytes = h.bytes;
  within = omega (arith, h.size);
  are = turned old.unread (end_of old mid count [] h.bytes shows end h.are);
  such = h.read;
}
  where
    turned : (o : Option (List ℕ)) → IfSome o (λ rest. h.bytes ≡ rest) → IfSome o (λ rest. rest ≡ h.bytes)
    turned None e = tt
    turned (Some rest) e = sym e

-- the rest of a file is such as well
pub rest_such : (unread : Option (List ℕ)) (limit : ℕ) (P Q : List ℕ → Type 0) → HasRest unread limit P
    → ((bytes : List ℕ) → P bytes → Q bytes) → HasRest unread limit Q
rest_such unread limit P Q h f = record { bytes = h.bytes; within = h.within; are = h.are; such = f h.bytes h.such }

-- ---- faults

-- a count that is within the limit is one of this fault, and of the one that was answered
pub counted : {T : Type 0} (r : Result T ReadFault) (limit n : ℕ) (fault : ReadFault) → IfErr r (λ e. e ≡ fault)
    → n ≤ limit → IsCountAt limit fault n → MatchResult r (λ _. n ≤ limit) (λ f. IsCountAt limit f n)
counted (Ok x) limit n fault is within count = within
counted (Err e) limit n fault is within count = subst (λ (f : ReadFault). IsCountAt limit f n) (sym is) count

-- a fault of the bytes that were read came behind no more than the limit
pub counted_bytes : (fault : InstanceFault) (x : StreamFault) (limit n : ℕ) → IsOfBytes fault x → n ≤ limit
    → stops.IsCountAt limit x n
counted_bytes fault (stream.Text told) limit n h within = within
counted_bytes fault stream.Memory limit n h within = within
counted_bytes fault stream.Failed limit n h within = absurd h
counted_bytes fault stream.TooLong limit n h within = absurd h

pub some_told : {A : Type 0} (o : Option A) (P : A → Type 0) → o ≢ None → IfSome o P
    → (told : A) × (o ≡ Some told) × P told
some_told None P n h = absurd (n refl)
some_told (Some x) P n h = (x, refl, h)

pub is_text : (fault : InstanceFault) (x : StreamFault) (told : InstanceFault) → IsOfBytes fault x
    → x ≡ stream.Text told → IsOfBytes fault (stream.Text told)
is_text fault x told h e = subst (IsOfBytes fault) e h

pub not_too_long : (fault : InstanceFault) (x : StreamFault) → IsOfBytes fault x → x ≡ stream.TooLong → ⊥
not_too_long fault x h e = subst (IsOfBytes fault) e h

pub counts_told : (T : Type 0) (fault : InstanceFault) (x : StreamFault) (old new : Shown) (Own : Fault → Type 0)
    → IsOfBytes fault x → new.faults ≡ old.faults → CountsStreamFault {T = T} old new Own (Err x)
counts_told T fault (stream.Text told) old new Own h e = e
counts_told T fault stream.Memory old new Own h e = e
counts_told T fault stream.Failed old new Own h e = absurd h
counts_told T fault stream.TooLong old new Own h e = absurd h
