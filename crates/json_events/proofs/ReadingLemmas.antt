-- What each way to read on comes to.
use Rattle.std.specs.Prelude.{slice_get}
use Rattle.std.proofs.Common.{◌≡◌, ℕ, ◌+◌, ◌≤◌, ◌<◌, List, [], ◌∷◌, ◌++◌, length, take, drop, get_or, Bool, Option}
use Rattle.std.proofs.Common.{Some}
use Rattle.std.proofs.Common.{None, Ok, refl, sym, ◌∙◌, ap, subst, length-drop, arith}
use Rattle.std.proofs.lemmas.Option.{get_or_from_slice_get, slice_get_within}
use Rattle.std.proofs.lemmas.List.{get_or-drop, drop-drop}
use Rattle.json_machine.specs.Machines.{state_of, levels_of, IsSound}
use Rattle.json_machine.specs.NumberRuns.{TakesNumber, TakesWithEnd}
use Rattle.json_events.specs.Unreads.{unread_of}
use Rattle.json_events.specs.Readings.{HasTold, HasStopped, ReadsOn, IsTelling, told_events}
use Rattle.json_machine.specs.declared.machine.Machine.{Machine}
use Rattle.json_events.specs.declared.unread.Unread.{Unread}
use Rattle.json_events.specs.declared.up_to_event.Reading.{Reading}
use Rattle.json_events.specs.declared.up_to_event.Reading.TheVariants.{Quiet, Used, One, Two, Refused, TooDeep}
use Rattle.json_machine.proofs.PlainNumbers.{with_end}
use Rattle.json_grammar.specs.Tree.{Event}
use Rattle.json_grammar.specs.Prefix.{IsSyntaxFault, IsDepthFault, IsShallow}
use Rattle.json_grammar.specs.laws.Machine.{State, step, run}
use Rattle.json_grammar.specs.laws.Reads.{HasRead}
use Rattle.json_grammar.proofs.LawsReach.{read_levels, read_next, read_run, read_refused, read_deep}

-- the first byte of the rest
record First (stream : List ℕ) (at b : ℕ) : Type 0 where
  within : at < length stream
  byte : get_or stream at 0 ≡ b

first_of : (stream rest : List ℕ) (at b : ℕ) → rest ≡ drop at stream → slice_get rest 0 ≡ Some b → First stream at b
first_of stream rest at b e f =
    let g : slice_get (drop at stream) 0 ≡ Some b = rw (← e) f in
    let i = slice_get_within (drop at stream) 0 b g in
    let j : at + 0 ≡ at = omega arith in
    record {
      within = omega (arith, length-drop at stream);
      byte = ap (λ z. get_or stream z 0) (sym j) ∙ sym (get_or-drop at stream 0 0)
          ∙ get_or_from_slice_get (drop at stream) 0 b 0 g;
    }

step_at : (stream : List ℕ) (at b : ℕ) (s : State) (o : Option (State × List Event)) → First stream at b
    → step at s.levels s.mode b ≡ o → step at s.levels s.mode (get_or stream at 0) ≡ o
step_at stream at b s o f e = rw f.byte e

pub byte_refused : (m : Machine) (u : Unread) (b : ℕ) (stream : List ℕ) (told : List Event) → HasTold m u stream told
    → slice_get (unread_of u) 0 ≡ Some b → step u.at (state_of m).levels (state_of m).mode b ≡ None
    → HasStopped u stream told × IsSyntaxFault stream u.at × IsShallow stream u.at
byte_refused m u b stream told h f e =
    let first = first_of stream (unread_of u) u.at b h.rest f in
    let fault = read_refused stream u.at (state_of m) told h.read first.within
    (step_at stream u.at b (state_of m) None first e) in
    (record { state = state_of m; read = h.read; within = first.within }, fault.0, fault.1)

pub byte_deep : (m : Machine) (t : State) (u : Unread) (b : ℕ) (stream : List ℕ) (told more : List Event)
    → HasTold m u stream told → slice_get (unread_of u) 0 ≡ Some b → step u.at (state_of m).levels (state_of m).mode b
    ≡ Some (t, more) → 16 < length t.levels → HasStopped u stream told × IsDepthFault stream u.at
byte_deep m t u b stream told more h f e l =
    let first = first_of stream (unread_of u) u.at b h.rest f in (
      record { state = state_of m; read = h.read; within = first.within },
      read_deep stream u.at (state_of m) t told more
          h.read first.within (step_at stream u.at b (state_of m) (Some (t, more)) first e) l,
    )

-- what is left of the stream behind bytes that are passed
pub rest_behind : (u v : Unread) (count : ℕ) (stream : List ℕ) → unread_of u ≡ drop u.at stream → v.at ≡ u.at + count
    → unread_of v ≡ drop count (unread_of u) → unread_of v ≡ drop v.at stream
rest_behind u v count stream r a d =
    d ∙ ap (drop count) r ∙ drop-drop count u.at stream ∙ ap (λ z. drop z stream) (sym a)

byte_told : (m n : Machine) (u v : Unread) (b : ℕ) (stream : List ℕ) (told more : List Event) → HasTold m u stream told
    → slice_get (unread_of u) 0 ≡ Some b → step u.at (state_of m).levels (state_of m).mode b ≡ Some (state_of n, more)
    → length (state_of n).levels ≤ 16 → IsSound (u.at + 1) n → v.at ≡ u.at + 1 → unread_of v ≡ drop 1 (unread_of u)
    → HasTold n v stream (told ++ more)
byte_told m n u v b stream told more h f e l s a r =
    let first = first_of stream (unread_of u) u.at b h.rest f in
    record {
      read = subst (λ z. HasRead stream z (state_of n) (told ++ more)) (sym a)
          (read_next stream u.at (state_of m) (state_of n) told more h.read first.within
          (step_at stream u.at b (state_of m) (Some (state_of n, more)) first e) l);
      rest = rest_behind u v 1 stream h.rest a r;
      sound = subst (λ z. IsSound z n) (sym a) s;
    }

reads_told : (r : Reading) (m : Machine) (u : Unread) (stream : List ℕ) (told : List Event) → IsTelling r
    → HasTold m u stream (told ++ told_events r) → ReadsOn (Ok r) m u stream told
reads_told Quiet m u stream told t h = h
reads_told Used m u stream told t h = absurd t
reads_told (One e) m u stream told t h = h
reads_told (Two e f) m u stream told t h = h
reads_told Refused m u stream told t h = absurd t
reads_told TooDeep m u stream told t h = absurd t

pub byte_read : (m n : Machine) (u v : Unread) (b : ℕ) (r : Reading) (stream : List ℕ) (told : List Event)
    → HasTold m u stream told → slice_get (unread_of u) 0 ≡ Some b → step u.at (state_of m).levels (state_of m).mode b
    ≡ Some (state_of n, told_events r) → length (state_of n).levels ≤ 16 → IsSound (u.at + 1) n → v.at ≡ u.at + 1
    → unread_of v ≡ drop 1 (unread_of u) → IsTelling r → ReadsOn (Ok r) n v stream told
byte_read m n u v b r stream told h f e l s a d t =
    reads_told r n v stream told t (byte_told m n u v b stream told (told_events r) h f e l s a d)

-- behind a byte that tells nothing and opens and closes nothing
pub quiet_byte : (m n : Machine) (u v : Unread) (k b : ℕ) (stream : List ℕ) (told : List Event)
    → HasTold m u stream told → slice_get (unread_of u) 0 ≡ Some b → k ≡ u.at
    → step k (state_of m).levels (state_of m).mode b ≡ Some (state_of n, []) → n.levels ≡ m.levels → IsSound (k + 1) n
    → v.at ≡ u.at + 1 → unread_of v ≡ drop 1 (unread_of u) → HasTold n v stream (told ++ [])
quiet_byte m n u v k b stream told h f a e same s c d =
    let levels = (read_levels stream u.at (state_of m) told h.read).open_levels in
    let many : length (levels_of n.levels.items) ≡ length (levels_of m.levels.items) =
    ap (λ (bs : List Bool). length (levels_of bs)) (ap (λ l. l.items) same) in
    byte_told m n u v b stream told [] h f
    (subst (λ z. step z (state_of m).levels (state_of m).mode b ≡ Some (state_of n, [])) a e)
    (omega (arith, levels, many)) (subst (λ z. IsSound (z + 1) n) a s) c d

-- behind a run of quiet bytes from an offset on
pub quiet_read : (stream rest : List ℕ) (at count : ℕ) (s t : State) (told : List Event) → HasRead stream at s told
    → rest ≡ drop at stream → count ≤ length rest → run at s (take count rest) ≡ Some (t, [])
    → HasRead stream (at + count) t told
quiet_read stream rest at count s t told h r i e = read_run stream at count s t told h (omega (arith, ap length r))
    (ap (λ z. run at s (take count z)) (sym r) ∙ e)

-- behind a number from an offset on, and the byte behind it
pub ended_read : (stream rest : List ℕ) (at count : ℕ) (s t : State) (events told : List Event)
    → HasRead stream at s told → rest ≡ drop at stream → TakesWithEnd at s rest count events t
    → HasRead stream (at + (count + 1)) t (told ++ events)
ended_read stream rest at count s t events told h r is =
    let place = at + count in
    let behind : count < length (drop at stream) = let w = is.within in omega (arith, ap length r) in
    let inside = quiet_read stream rest at count s is.inside told h r (let w = is.within in omega arith) is.runs in
    let byte : get_or rest count 0 ≡ get_or stream place 0 =
    ap (λ z. get_or z count 0) r ∙ get_or-drop at stream count 0 in
    let levels : length t.levels ≤ 16 = let l = (read_levels stream at s told h).open_levels in
    omega (arith, is.no_deeper) in
    let next : place + 1 ≡ at + (count + 1) = omega arith in
    subst (λ z. HasRead stream z t (told ++ events)) next
    (read_next stream place is.inside t told events inside (omega (arith, length-drop at stream))
    (ap (step place is.inside.levels is.inside.mode) (sym byte) ∙ is.tells) levels)

-- behind a run of quiet bytes
pub after_run : (m n : Machine) (u v : Unread) (count : ℕ) (stream : List ℕ) (told : List Event)
    → HasTold m u stream told → count ≤ length (unread_of u)
    → ((k : ℕ) → run k (state_of m) (take count (unread_of u)) ≡ Some (state_of n, []))
    → ((k : ℕ) → IsSound k m → IsSound (k + count) n) → v.at ≡ u.at + count → unread_of v ≡ drop count (unread_of u)
    → HasTold n v stream told
after_run m n u v count stream told h i r s a d = record {
  read = subst (λ z. HasRead stream z (state_of n) told) (sym a)
      (quiet_read stream (unread_of u) u.at count (state_of m) (state_of n) told h.read h.rest i (r u.at));
  rest = rest_behind u v count stream h.rest a d;
  sound = subst (λ z. IsSound z n) (sym a) (s u.at h.sound);
}

-- behind a number and its comma
pub number_told : (m n : Machine) (u v : Unread) (count : ℕ) (event : Event) (stream : List ℕ) (told : List Event)
    → HasTold m u stream told → TakesNumber u.at (state_of m) (unread_of u) count event (state_of n) → IsSound v.at n
    → v.at ≡ u.at + (count + 1) → unread_of v ≡ drop (count + 1) (unread_of u) → HasTold n v stream (told ++ event ∷ [])
number_told m n u v count event stream told h t s a d = record {
  read = subst (λ z. HasRead stream z (state_of n) (told ++ event ∷ [])) (sym a)
      (ended_read stream (unread_of u) u.at count (state_of m) (state_of n) (event ∷ []) told h.read h.rest
      (with_end t));
  rest = rest_behind u v (count + 1) stream h.rest a d;
  sound = s;
}

-- nothing is left
pub used_up : (m : Machine) (u : Unread) (stream : List ℕ) (told : List Event) → HasTold m u stream told
    → slice_get (unread_of u) 0 ≡ None → HasTold m u stream told × (u.at ≡ length stream)
used_up m u stream told h e =
    (h, omega (arith, nothing (unread_of u) e, ap length h.rest, length-drop u.at stream, h.read.within))
  where
    nothing : (xs : List ℕ) → slice_get xs 0 ≡ None → length xs ≡ 0
    nothing [] f = refl
    nothing (x ∷ xs) f = absurd cc

-- the same where it is known what was read
pub reads_as : (r s : Reading) (m n : Machine) (u v : Unread) → r ≡ s
    → ((stream : List ℕ) (told : List Event) → HasTold m u stream told → ReadsOn (Ok r) n v stream told)
    → (stream : List ℕ) (told : List Event) → HasTold m u stream told → ReadsOn (Ok s) n v stream told
reads_as r s m n u v e f stream told h = subst (λ (z : Reading). ReadsOn (Ok z) n v stream told) e (f stream told h)
