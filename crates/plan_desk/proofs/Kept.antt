-- What a change to the files in memory leaves of what is shown, and of what is true of them.
use Rattle.std.proofs.Common.{◌≡◌, ◌≢◌, ℕ, ◌<◌, ◌≤◌, Bool, true, false, List, [], ◌++◌, length, take, drop, set, refl}
use Rattle.std.proofs.Common.{sym, ◌∙◌, ap, arith, subst, length-append, inl, inr, ◌⊎◌}
use Rattle.std.specs.Prelude.{Option, Some, None, Ok, option_map, if◌then◌else◌, bytes_eq}
use Rattle.std.proofs.lemmas.Slice.Eq.{bytes_eq-Decides}
use Rattle.std.proofs.lemmas.List.{drop-append-le, length-set, take_all}
use Rattle.std.proofs.lemmas.Bool.{true≢false, cases_eq}
use Rattle.plan_desk.specs.declared.files.Place.{Place}
use Rattle.plan_desk.specs.declared.files.LastFault.{LastFault}
use Rattle.plan_desk.specs.declared.files.LastFault.TheVariants.{Named, OfFile, Said}
use Rattle.plan_desk.specs.declared.fault.FaultCounts.{FaultCounts}
use Rattle.plan_desk.specs.Stored.{Stored}
use Rattle.plan_desk.specs.Calls.{TakesIn, PutsOut, Writes}
use Rattle.plan_desk.specs.Faults.{CountsFault}
use Rattle.plan_desk.specs.Desk.{Shown, Input, Output, Fault, ShowsSame, after_write, put_at, none_taken, file_taken}
use Rattle.plan_desk.specs.Desk.{output_after_write, input_after_write}
use Rattle.plan_desk.specs.Mem.{first_of, file_at, IsAt, IsPut, IsTakenAt, IsOpenAt, IsLastAt, mem_input, mem_output}
use Rattle.plan_desk.specs.Mem.{fault_of, after_put_file}
use Rattle.plan_desk.proofs.Places.{at_name, at_within, first_at, first_after, same_name_at, file_here, file_there}
use Rattle.plan_desk.proofs.Places.{still_at, one_place}

-- no file is taken in
pub no_input : (old new : List Stored) (taken : Option Place) → mem_input new None ≡ none_taken (mem_input old taken)
no_input old new None = refl
no_input old new (Some p) = refl

-- the first file of a name is taken in
pub taken_in : (files : List Stored) (i : ℕ) (name : List ℕ) (was : Option Place) → IsAt files i name
    → mem_input files (Some (record { file = i; from = 0 }))
    ≡ file_taken name (file_at files i).bytes (mem_input files was)
taken_in files i name None at = λ j. record {
  taken = true;
  name = Some (at_name files i name at j);
  unread = Some (file_at files i).bytes;
}
taken_in files i name (Some p) at = λ j. record {
  taken = true;
  name = Some (at_name files i name at j);
  unread = Some (file_at files i).bytes;
}

pub open_is : (files : List Stored) (w : Option ℕ) (i : ℕ) → w ≡ Some i → IsOpenAt files w
    → IsAt files i (file_at files i).name
open_is files w i e at = subst (IsOpenAt files) e at

pub open_within : (files : List Stored) (w : Option ℕ) (i : ℕ) → w ≡ Some i → IsOpenAt files w → i < length files
open_within files w i e at = at_within files i _ (open_is files w i e at)

pub taken_within : (files : List Stored) (t : Option Place) (p : Place) → t ≡ Some p → IsTakenAt files t
    → p.file < length files
taken_within files t p e at = at_within files p.file _ (subst (IsTakenAt files) e at).0

-- where files keep their places and names, so does the fault that was kept
module _ (old new : List Stored)
    (names : (k : ℕ) → k < length old → (k < length new) × ((file_at new k).name ≡ (file_at old k).name)) where
  pub last_same : (last : Option LastFault) → IsLastAt old last
      → option_map (fault_of new) last ≡ option_map (fault_of old) last
  last_same None at = refl
  last_same (Some (Named call name)) at = refl
  last_same (Some (OfFile call i)) at = λ j. Some (record { call = call; name = (names i at).1 j })
  last_same (Some Said) at = refl

  pub last_still : (last : Option LastFault) → IsLastAt old last → IsLastAt new last
  last_still None at = at
  last_still (Some (Named call name)) at = at
  last_still (Some (OfFile call i)) at = (names i at).0
  last_still (Some Said) at = at

-- what is shown of these parts
abbrev pub shown : List Stored → Option Place → Option ℕ → List ℕ → FaultCounts → Option Fault → Shown
shown files taken writing spoken faults last = record {
  input = mem_input files taken;
  output = mem_output files writing;
  said = Some spoken;
  faults = record { count = faults.count; of_say = faults.of_say; last = last };
}

-- a call that succeeds counts no fault
no_fault : (faults : FaultCounts) (input mid : Input) (output wrote : Output) (said spoke : Option (List ℕ))
    (last kept : Option Fault) (Own : Fault → Type 0) {T : Type 0} (x : T) → kept ≡ last
    → CountsFault false (record {
      input = input;
      output = output;
      said = said;
      faults = record { count = faults.count; of_say = faults.of_say; last = last };
    }) (record {
      input = mid;
      output = wrote;
      said = spoke;
      faults = record { count = faults.count; of_say = faults.of_say; last = kept };
    }) Own (Ok x)
no_fault faults input mid output wrote said spoke last kept Own x e =
    record { same = λ j. record { count = faults.count; of_say = faults.of_say; last = e j }; fails = tt }

-- the first file of a name was taken in
pub takes_in : (files : List Stored) (i : ℕ) (name : List ℕ) (taken : Option Place) (writing : Option ℕ)
    (spoken : List ℕ) (faults : FaultCounts) (last : Option Fault) (old : Shown) → IsAt files i name
    → shown files taken writing spoken faults last ≡ old
    → TakesIn {T = Unit {0}} name old (shown files (Some (record { file = i; from = 0 })) writing spoken faults last)
    (Ok tt)
takes_in files i name taken writing spoken faults last old at e = subst
    (λ (o : Shown). TakesIn {T = Unit {0}} name o
    (shown files (Some (record { file = i; from = 0 })) writing spoken faults last) (Ok tt)) e (record {
      ok = (
        (file_at files i).bytes,
        first_at (λ f. Some f.bytes) files i name at,
        record {
          input = taken_in files i name taken at;
          output = refl;
          said = refl;
        },
      );
      err = tt;
      faults = no_fault faults _ _ _ _ _ _ last last _ tt refl;
    })

-- a file was put out
pub puts_out : (files new : List Stored) (i : ℕ) (name : List ℕ) (taken : Option Place) (writing : Option ℕ)
    (spoken : List ℕ) (faults : FaultCounts) (last : Option LastFault) (old : Shown)
    → IsPut files new i (record { name = name; bytes = []; put_out = true }) → IsLastAt files last
    → shown files taken writing spoken faults (option_map (fault_of files) last) ≡ old
    → PutsOut {T = Unit {0}} name old (shown new None (Some i) spoken faults (option_map (fault_of new) last)) (Ok tt)
puts_out files new i name taken writing spoken faults last old put kept e = subst
    (λ (o : Shown). PutsOut {T = Unit {0}} name o
    (shown new None (Some i) spoken faults (option_map (fault_of new) last)) (Ok tt)) e (record {
      ok = record {
        input = no_input files new taken;
        output = λ j. record {
          opened = true;
          name = Some (at_name new i name put.first j);
          holds = Some (put.files (λ f. Some f.bytes) j);
          written = Some (put.files (λ f. if f.put_out then Some f.bytes else None) j);
        };
        said = refl;
      };
      err = tt;
      faults = no_fault faults _ _ _ _ _ _ (option_map (fault_of files) last) (option_map (fault_of new) last) _ tt
          (last_same files new put.names last kept);
    })

-- a file was put there
pub put_shown : (files new : List Stored) (i : ℕ) (name bytes : List ℕ) (taken : Option Place) (writing : Option ℕ)
    (spoken : List ℕ) (faults : FaultCounts) (last : Option LastFault) (old : Shown)
    → IsPut files new i (record { name = name; bytes = bytes; put_out = false }) → IsLastAt files last
    → shown files taken writing spoken faults (option_map (fault_of files) last) ≡ old
    → shown new None None spoken faults (option_map (fault_of new) last) ≡ after_put_file name bytes old
put_shown files new i name bytes taken writing spoken faults last old put kept e =
    subst (λ (o : Shown). shown new None None spoken faults (option_map (fault_of new) last)
    ≡ after_put_file name bytes o) e (λ j. record {
      input = no_input files new taken j;
      output = record {
        opened = false;
        name = Some [];
        holds = Some (put.files (λ f. Some f.bytes) j);
        written = Some (put.files (λ f. if f.put_out then Some f.bytes else None) j);
      };
      said = Some spoken;
      faults = record {
        count = faults.count;
        of_say = faults.of_say;
        last = last_same files new put.names last kept j;
      };
    })

-- a file with a piece behind its bytes
abbrev pub grown : List ℕ → Stored → Stored
grown piece f = record f { bytes = f.bytes ++ piece }

-- a piece was written to the file at a place
module _ (old : List Stored) (i : ℕ) (piece : List ℕ) (first : IsAt old i (file_at old i).name) where
  pub names_after : (k : ℕ) → k < length old → (k < length (set old i (grown piece (file_at old i))))
      × ((file_at (set old i (grown piece (file_at old i))) k).name ≡ (file_at old k).name)
  names_after k lt = (
    omega (arith, lt, length-set old i (grown piece (file_at old i))),
    same_name_at old i (grown piece (file_at old i)) first refl k,
  )

  part_after : (part : Stored → Option (List ℕ))
      → part (grown piece (file_at old i)) ≡ option_map (λ xs. xs ++ piece) (part (file_at old i))
      → first_of part (set old i (grown piece (file_at old i)))
      ≡ put_at (file_at old i).name (option_map (λ xs. xs ++ piece) (first_of part old (file_at old i).name))
      (first_of part old)
  part_after part e = first_after old i (grown piece (file_at old i)) first refl part
      ∙ ap (λ (v : Option (List ℕ)). put_at (file_at old i).name v (first_of part old))
      (e ∙ ap (option_map (λ xs. xs ++ piece)) (sym (first_at part old i _ first)))

  written : (b : Bool) (bytes : List ℕ)
      → (if b then Some (bytes ++ piece) else None) ≡ option_map (λ xs. xs ++ piece) (if b then Some bytes else None)
  written true bytes = refl
  written false bytes = refl

  wrote : mem_output (set old i (grown piece (file_at old i))) (Some i)
      ≡ output_after_write piece (mem_output old (Some i))
  wrote = λ j. record {
    opened = true;
    name = Some (same_name_at old i (grown piece (file_at old i)) first refl i j);
    holds = Some (part_after (λ f. Some f.bytes) refl j);
    written = Some (part_after (λ f. if f.put_out then Some f.bytes else None)
        (written (file_at old i).put_out (file_at old i).bytes) j);
  }

  -- beside it another file may be taken in, or the same one
  wrote_beside : (taken : Option Place) → IsTakenAt old taken
      → mem_input (set old i (grown piece (file_at old i))) taken
      ≡ input_after_write piece (mem_output old (Some i)) (mem_input old taken)
  wrote_beside None at = refl
  wrote_beside (Some p) at = go (bytes_eq (file_at old p.file).name (file_at old i).name) refl
    where
      go : (b : Bool) → bytes_eq (file_at old p.file).name (file_at old i).name ≡ b
          → mem_input (set old i (grown piece (file_at old i))) (Some p)
          ≡ record {
            taken = true;
            name = Some (file_at old p.file).name;
            unread = if b
                then Some (drop p.from (file_at old p.file).bytes ++ piece)
                else Some (drop p.from (file_at old p.file).bytes);
          }
      go true e =
          let same : (file_at old p.file).name ≡ (file_at old i).name = (bytes_eq-Decides _ _).0 e in
          let one : p.file ≡ i =
          one_place old p.file i (file_at old i).name (subst (IsAt old p.file) same at.0) first in
          let now : (file_at (set old i (grown piece (file_at old i))) p.file).bytes ≡ (file_at old
          p.file).bytes ++ piece = ap (λ (k : ℕ). (file_at (set old i (grown piece (file_at old i))) k).bytes) one
          ∙ ap (λ (f : Stored). f.bytes) (file_here old i (grown piece (file_at old i)) first refl)
          ∙ ap (λ (k : ℕ). (file_at old k).bytes ++ piece) (sym one) in
          let rest : drop p.from (file_at (set old i (grown piece (file_at old i))) p.file).bytes ≡ drop p.from (file_at
          old p.file).bytes ++ piece =
          ap (drop p.from) now ∙ drop-append-le p.from (file_at old p.file).bytes piece at.1 in
          λ j. record {
            taken = true;
            name = Some (same_name_at old i (grown piece (file_at old i)) first refl p.file j);
            unread = Some (rest j);
          }
      go false e =
          let apart : p.file ≢ i = λ h. true≢false
          (sym ((bytes_eq-Decides (file_at old p.file).name (file_at old i).name).1
          (ap (λ (k : ℕ). (file_at old k).name) h)) ∙ e) in
          λ j. record {
            taken = true;
            name = Some (same_name_at old i (grown piece (file_at old i)) first refl p.file j);
            unread =
                Some (drop p.from (file_there old i (grown piece (file_at old i)) first refl p.file apart j).bytes);
          }

  -- the file that is taken in has grown or is as it was
  pub still_taken : (taken : Option Place) → IsTakenAt old taken
      → IsTakenAt (set old i (grown piece (file_at old i))) taken
  still_taken None at = at
  still_taken (Some p) at =
      (still_at old i (grown piece (file_at old i)) first refl p.file at.0, go (cases_eq p.file i))
    where
      go : (p.file ≡ i) ⊎ (p.file ≢ i)
          → p.from ≤ length (file_at (set old i (grown piece (file_at old i))) p.file).bytes
      go (inl one) =
          let now : (file_at (set old i (grown piece (file_at old i))) p.file).bytes ≡ (file_at old
          p.file).bytes ++ piece = ap (λ (k : ℕ). (file_at (set old i (grown piece (file_at old i))) k).bytes) one
          ∙ ap (λ (f : Stored). f.bytes) (file_here old i (grown piece (file_at old i)) first refl)
          ∙ ap (λ (k : ℕ). (file_at old k).bytes ++ piece) (sym one) in
          omega (arith, at.1, ap length now, length-append (file_at old p.file).bytes piece)
      go (inr apart) = omega (
        arith,
        at.1,
        ap (λ (f : Stored). length f.bytes) (file_there old i (grown piece (file_at old i)) first refl p.file apart),
      )

  -- the same, where the file that is open is the one at this place
  pub wrote_open : (w : Option ℕ) → w ≡ Some i → mem_output (set old i (grown piece (file_at old i))) w
      ≡ output_after_write piece (mem_output old w)
  wrote_open w is = subst (λ (v : Option ℕ). mem_output (set old i (grown piece (file_at old i))) v
      ≡ output_after_write piece (mem_output old v)) (sym is) wrote

  pub wrote_input : (w : Option ℕ) (taken : Option Place) → w ≡ Some i → IsTakenAt old taken
      → mem_input (set old i (grown piece (file_at old i))) taken
      ≡ input_after_write piece (mem_output old w) (mem_input old taken)
  wrote_input w taken is at = subst (λ (v : Option ℕ). mem_input (set old i (grown piece (file_at old i))) taken
      ≡ input_after_write piece (mem_output old v) (mem_input old taken)) (sym is) (wrote_beside taken at)

  pub still_open : (w : Option ℕ) → w ≡ Some i → IsOpenAt (set old i (grown piece (file_at old i))) w
  still_open w is = subst (IsOpenAt (set old i (grown piece (file_at old i)))) (sym is)
      (still_at old i (grown piece (file_at old i)) first refl i first)

  -- the whole piece was written
  pub writes : (new : List Stored) (w : Option ℕ) (taken : Option Place) (spoken : List ℕ) (faults : FaultCounts)
      (last : Option LastFault) (shows : Shown) → new ≡ set old i (grown piece (file_at old i)) → w ≡ Some i
      → IsTakenAt old taken → IsLastAt old last
      → shown old taken w spoken faults (option_map (fault_of old) last) ≡ shows
      → Writes piece shows (shown new taken w spoken faults (option_map (fault_of new) last)) (Ok (length piece))
  writes new w taken spoken faults last shows set_to is at kept e =
      let all : take (length piece) piece ≡ piece = take_all _ _ (omega arith) in
      let now : List Stored = set old i (grown piece (file_at old i)) in
      subst (λ (l : List Stored). Writes piece shows (shown l taken w spoken faults (option_map (fault_of l) last))
      (Ok (length piece))) (sym set_to)
      (subst (λ (o : Shown). Writes piece o (shown now taken w spoken faults (option_map (fault_of now) last))
      (Ok (length piece))) e (record {
        bound = omega arith;
        some = λ h. h;
        ok = subst (λ (p : List ℕ). ShowsSame (shown now taken w spoken faults (option_map (fault_of now) last))
            (after_write p (shown old taken w spoken faults (option_map (fault_of old) last)))) (sym all)
            (record { input = wrote_input w taken is at; output = wrote_open w is; said = refl });
        err = tt;
        faults = no_fault faults _ _ _ _ _ _ (option_map (fault_of old) last) (option_map (fault_of now) last) _
            (length piece) (last_same old now names_after last kept);
      }))
