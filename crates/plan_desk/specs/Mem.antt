-- Files in memory: what a desk of them is, what it shows, and which of its calls fail.
use Rattle.std.specs.Prelude.{◌≡◌, ℕ, zero, suc, ◌+◌, ◌-◌, ◌^◌, ◌<◌, ◌≤◌, Bool, true, false, ◌==◌, ◌&&◌, List, [], ◌∷◌}
use Rattle.std.specs.Prelude.{length, drop, slice_index, slice_set, min, Option, Some, None, option_map, is_some}
use Rattle.std.specs.Prelude.{Result, is_err, if◌then◌else◌, bytes_eq, ⊤}
use Rattle.std.specs.List.{list_any}
use Rattle.plan_desk.specs.declared.files.Place.{Place}
use Rattle.plan_desk.specs.declared.files.Listed.{Listed}
use Rattle.plan_desk.specs.declared.files.LastFault.{LastFault}
use Rattle.plan_desk.specs.declared.files.LastFault.TheVariants.{Named, OfFile, Said}
use Rattle.plan_desk.specs.declared.fault.FaultCounts.{FaultCounts}
use Rattle.plan_desk.specs.declared.call.DeskCall.{DeskCall}
use Rattle.plan_desk.specs.declared.call.DeskCall.TheVariants.{TakeIn, Read, PutOut, Write, FinishOut, Say}
use Rattle.plan_desk.specs.declared.call.Failed.{Failed}
use Rattle.plan_desk.specs.Desk.{Shown, Input, Output, Fault, put_at, none_taken}
use Rattle.plan_desk.specs.Faults.{count_after, is_say}
use Rattle.plan_desk.specs.Stored.{Stored}

-- A desk in memory: its files, each name's first being the one that counts; the place of the file that is taken in, and
-- how many bytes of it were read; the place of the file that is open for writing; what was said; the largest piece of a
-- read; the calls that are to fail; how many calls of each kind were made; the counts of faults; and the last fault.
pub record MemState : Type 0 where
  pub files : List Stored
  pub taken : Option Place
  pub writing : Option ℕ
  pub spoken : List ℕ
  pub most : ℕ
  pub listed : List Listed
  pub made : List ℕ
  pub faults : FaultCounts
  pub last : Option Fault

-- no file, no call yet, and none that is to fail
abbrev pub empty_state : MemState
empty_state = record {
  files = [];
  taken = None;
  writing = None;
  spoken = [];
  most = 2 ^ 64 - 1;
  listed = [];
  made = 0 ∷ 0 ∷ 0 ∷ 0 ∷ 0 ∷ 0 ∷ [];
  faults = record { count = 0; of_say = 0 };
  last = None;
}

-- what the first file of a name is mapped to
abbrev pub first_of : (Stored → Option (List ℕ)) → List Stored → List ℕ → Option (List ℕ)
first_of part [] name = None
first_of part (f ∷ fs) name = if bytes_eq name f.name then part f else first_of part fs name

-- the bytes that the file of a name holds
abbrev pub held_by : List Stored → List ℕ → Option (List ℕ)
held_by = first_of (λ f. Some f.bytes)

-- the bytes that were written to the file of a name since it was put out
abbrev pub written_by : List Stored → List ℕ → Option (List ℕ)
written_by = first_of (λ f. if f.put_out then Some f.bytes else None)

-- the file at a place
abbrev pub file_at : List Stored → ℕ → Stored
file_at [] i = record { name = []; bytes = []; put_out = false }
file_at (f ∷ fs) zero = f
file_at (f ∷ fs) (suc i) = file_at fs i

-- the first file of this name stands at this place
abbrev pub IsAt : List Stored → ℕ → List ℕ → Type 0
IsAt [] i name = ⊥
IsAt (f ∷ fs) zero name = f.name ≡ name
IsAt (f ∷ fs) (suc i) name = (bytes_eq name f.name ≡ false) × IsAt fs i name

-- A file was put at this place, which is that of the first file of its name; others keep their places and names
pub record IsPut (old new : List Stored) (at : ℕ) (f : Stored) : Type 0 where
  pub first : IsAt new at f.name
  pub files : (part : Stored → Option (List ℕ)) → first_of part new ≡ put_at f.name (part f) (first_of part old)
  pub names : (k : ℕ) → k < length old → (k < length new) × ((file_at new k).name ≡ (file_at old k).name)

-- the bytes that are still unread of the file that is taken in
abbrev pub unread_of : List Stored → Option Place → List ℕ
unread_of files None = []
unread_of files (Some p) = drop p.from (file_at files p.file).bytes

-- what is shown of the file that is taken in
abbrev pub mem_input : List Stored → Option Place → Input
mem_input files None = record { taken = false; name = Some []; unread = Some [] }
mem_input files (Some p) = record {
  taken = true;
  name = Some (file_at files p.file).name;
  unread = Some (drop p.from (file_at files p.file).bytes);
}

-- the name of the file that is open
abbrev pub open_name : List Stored → Option ℕ → List ℕ
open_name files None = []
open_name files (Some i) = (file_at files i).name

-- what is shown of the files
abbrev pub mem_output : List Stored → Option ℕ → Output
mem_output files writing = record {
  opened = is_some writing;
  name = Some (open_name files writing);
  holds = Some (held_by files);
  written = Some (written_by files);
}

-- what a desk in memory shows, which is everything
abbrev pub mem_shows : MemState → Shown
mem_shows d = record {
  input = mem_input d.files d.taken;
  output = mem_output d.files d.writing;
  said = Some d.spoken;
  faults = record { count = d.faults.count; of_say = d.faults.of_say; last = d.last };
}

-- the fault that was kept, whose name may be that of a file
abbrev pub fault_of : List Stored → LastFault → Fault
fault_of files (Named call name) = record { call = call; name = name.bytes }
fault_of files (OfFile call i) = record { call = call; name = (file_at files i).name }
fault_of files Said = record { call = Say; name = [] }

-- the place is that of the first file of its name
abbrev pub IsOpenAt : List Stored → Option ℕ → Type 0
IsOpenAt files None = ⊤
IsOpenAt files (Some i) = IsAt files i (file_at files i).name

-- the place is that of the first file of its name, and no more was read of it than it holds
abbrev pub IsTakenAt : List Stored → Option Place → Type 0
IsTakenAt files None = ⊤
IsTakenAt files (Some p) =
    IsAt files p.file (file_at files p.file).name × (p.from ≤ length (file_at files p.file).bytes)

-- a fault that was kept with a place is that of a file
abbrev pub IsLastAt : List Stored → Option LastFault → Type 0
IsLastAt files None = ⊤
IsLastAt files (Some (Named call name)) = ⊤
IsLastAt files (Some (OfFile call i)) = i < length files
IsLastAt files (Some Said) = ⊤

-- what is true of every desk in memory
pub record IsConsistent (files : List Stored) (taken : Option Place) (writing : Option ℕ) (last : Option LastFault)
    (most : ℕ) : Type 0 where
  pub taken_at : IsTakenAt files taken
  pub open_at : IsOpenAt files writing
  pub last_at : IsLastAt files last
  pub some_most : 0 < most

-- the number of a kind of call
abbrev pub number_of : DeskCall → ℕ
number_of TakeIn = 0
number_of Read = 1
number_of PutOut = 2
number_of Write = 3
number_of FinishOut = 4
number_of Say = 5

-- the number of the next call of this kind, from 1, which stops at 2 ^ 64 - 1
abbrev pub next_of : List ℕ → DeskCall → ℕ
next_of made call = min (slice_index made (number_of call) + 1) (2 ^ 64 - 1)

-- the next call of this kind is one that is to fail
abbrev pub is_due : MemState → DeskCall → Bool
is_due d call = list_any (λ l. (number_of l.call == number_of call) && (l.nth == next_of d.made call)) d.listed

-- one call of this kind was made, which counts as a fault where it failed; no other call was made, and which calls are
-- to fail and how much is read at a time is the same
pub record CountsCall {T : Type 0} (call : DeskCall) (old new : MemState) (result : Result T Failed) : Type 0 where
  pub made : new.made ≡ slice_set old.made (number_of call) (next_of old.made call)
  pub faults : new.faults.count ≡ count_after (is_err result) old.faults.count
  pub of_say : new.faults.of_say ≡ count_after (is_say call && is_err result) old.faults.of_say
  pub listed : new.listed ≡ old.listed
  pub most : new.most ≡ old.most

-- a file was put there with these bytes, and not put out; none is open
abbrev pub put_in : List ℕ → List ℕ → Output → Output
put_in name bytes o = record {
  opened = false;
  name = option_map (λ _. []) o.name;
  holds = option_map (put_at name (Some bytes)) o.holds;
  written = option_map (put_at name None) o.written;
}

-- a file was put there with these bytes; no file is taken in or open
abbrev pub after_put_file : List ℕ → List ℕ → Shown → Shown
after_put_file name bytes s = record s { input = none_taken s.input; output = put_in name bytes s.output }

-- no call was made, and which calls are to fail and how much is read at a time is the same
pub record KeepsPlan (old new : MemState) : Type 0 where
  pub made : new.made ≡ old.made
  pub listed : new.listed ≡ old.listed
  pub most : new.most ≡ old.most
