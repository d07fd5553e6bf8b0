-- What a pull stands for behind each way to go on.
use Rattle.std.specs.Prelude.{slice_get, is_some, ◌⊎◌}
use Rattle.std.specs.Option.{option_map, option_to_list}
use Rattle.std.proofs.Common.{◌≡◌, ℕ, zero, suc, ◌+◌, ◌≤◌, ◌<◌, List, [], ◌∷◌, ◌++◌, length, take, drop, Bool, true}
use Rattle.std.proofs.Common.{false, Option, Some, None, Result, Ok, Err, OnOk, OnErr, IsErr, refl, sym, ◌∙◌, ap, subst}
use Rattle.std.proofs.Common.{append-nil, append_assoc, length-append, length-drop, inl, inr, arith}
use Rattle.std.proofs.lemmas.List.{drop-append-le, drop-drop, length-take-le, take_all}
use Rattle.std.proofs.Math.Nat.{eq-or-lt_of_le}
use Rattle.std.proofs.Math.Seq.{drop-append_seam}
use Rattle.std.specs.declared.alloc.AllocError.{AllocError}
use Rattle.json_machine.specs.Machines.{state_of, event_of, IsSound}
use Rattle.json_events.specs.Unreads.{unread_of}
use Rattle.json_events.specs.Readings.{HasTold, HasStopped, ReadsOn}
use Rattle.json_events.specs.PullViews.{PullView}
use Rattle.json_events.specs.Pulls.{Stands, StandsIn, IsReading, IsFaulty, IsOver, HasFault, MachineHolds}
use Rattle.json_events.specs.Pulls.{StandsForSome, view_of}
use Rattle.json_events.specs.Steps.{IsNext, IsFault, IsIdle, IsUsedUp, IsLast, Steps, Concludes}
use Rattle.json_machine.specs.declared.raw_event.RawEvent as raw
use Rattle.json_machine.specs.declared.machine.Machine.{Machine}
use Rattle.json_events.specs.declared.unread.Unread.{Unread}
use Rattle.json_events.specs.declared.pull.Pulled.{Pulled}
use Rattle.json_events.specs.declared.pull.Pulled.TheVariants as pulled
use Rattle.json_events.specs.declared.pull.Stage.{Stage}
use Rattle.json_events.specs.declared.pull.Stage.TheVariants.{Reading, Faulty, Over}
use Rattle.json_events.specs.declared.pull.Step.{Step}
use Rattle.json_events.specs.declared.pull.Pull.TheInside.{Inside}
use Rattle.json_events.specs.declared.up_to_event.Reading as reading
use Rattle.json_events.specs.declared.up_to_event.Reading.TheVariants as reads
use Rattle.json_grammar.specs.Tree as json
use Rattle.json_grammar.specs.Tree.{Tree, events_of}
use Rattle.json_grammar.specs.Grammar.{IsText}
use Rattle.json_grammar.specs.Events.{event_view}
use Rattle.json_grammar.specs.Prefix.{IsSyntaxFault, IsShallow}
use Rattle.json_grammar.specs.Stream.{IsShallowPrefix, IsDueCount, IsGivenText}
use Rattle.json_grammar.specs.laws.Machine.{State, want, st, run, ending}
use Rattle.json_grammar.specs.laws.Sound.{AreSound}
use Rattle.json_grammar.specs.laws.Reads.{HasRead}
use Rattle.json_grammar.specs.declared.event.Event.{Event}
use Rattle.json_grammar.specs.declared.fault.TextFault.{TextFault}
use Rattle.json_grammar.specs.declared.fault.TextFault.TheVariants.{Syntax, TooDeep, Memory}
use Rattle.json_grammar.proofs.LawsOfTexts.{last_sound, text_sound, one_tree}
use Rattle.json_grammar.proofs.LawsStays.{syntax_stays, shallow_stays, depth_stays}
use Rattle.json_grammar.proofs.LawsReach.{IsWhole, read_none, read_pushed, read_short, read_whole, told_sound}
use Rattle.json_grammar.proofs.LawsDues.{next_due, next_of_each, due_told, due_whole, sound_syntax, sound_depth}
use Rattle.json_grammar.proofs.LawsDues.{sound_end}
use Rattle.json_grammar.proofs.LawsDues.{no_text_at_syntax, no_text_at_depth}

-- in each stage
pub stands_reading : (v : PullView) (stream : List ℕ) (given : ℕ) (finished : Bool) → v.finished ≡ finished
    → v.stage ≡ Reading → IsReading v stream given → Stands v stream given finished
stands_reading v stream given finished f e r =
    record { was_finished = f; stands = subst (λ (s : Stage). StandsIn s v stream given finished) (sym e) r }

pub stands_faulty : (v : PullView) (fault : TextFault) (stream : List ℕ) (given : ℕ) (finished : Bool)
    → v.finished ≡ finished → v.stage ≡ Faulty fault → IsFaulty v fault stream given finished
    → Stands v stream given finished
stands_faulty v fault stream given finished f e r =
    record { was_finished = f; stands = subst (λ (s : Stage). StandsIn s v stream given finished) (sym e) r }

pub is_reading : (v : PullView) (stream : List ℕ) (given : ℕ) (finished : Bool) → v.stage ≡ Reading
    → Stands v stream given finished → IsReading v stream given
is_reading v stream given finished e h = subst (λ (s : Stage). StandsIn s v stream given finished) e h.stands

pub is_faulty : (v : PullView) (fault : TextFault) (stream : List ℕ) (given : ℕ) (finished : Bool)
    → v.stage ≡ Faulty fault → Stands v stream given finished → IsFaulty v fault stream given finished
is_faulty v fault stream given finished e h = subst (λ (s : Stage). StandsIn s v stream given finished) e h.stands

pub is_over : (v : PullView) (stream : List ℕ) (given : ℕ) (finished : Bool) → v.stage ≡ Over
    → Stands v stream given finished → IsOver v stream given finished
is_over v stream given finished e h = subst (λ (s : Stage). StandsIn s v stream given finished) e h.stands

-- a pull to which nothing was pushed
pub stands_new : (v : PullView) → v.state ≡ st [] want → v.at ≡ 0 → v.unread ≡ [] → v.held ≡ None → v.stage ≡ Reading
    → v.finished ≡ false → Stands v [] 0 false
stands_new v s a u h g f =
    stands_reading v [] 0 false f g (record {
      told = [];
      read = subst (λ k. HasRead [] k v.state []) (sym a) (subst (λ z. HasRead [] 0 z []) (sym s) (read_none []));
      unread = u ∙ ap (λ k. drop k []) (sym a);
      enough = omega arith;
      held = ap option_to_list (sym h);
    })

-- more bytes

still_faulty : (stream more : List ℕ) (k : ℕ) (fault : TextFault) → k < length stream → HasFault stream k fault
    → HasFault (stream ++ more) k fault
still_faulty stream more k (Syntax place) i h =
    (h.0, syntax_stays stream more k i h.1, shallow_stays stream more k (omega arith) h.2)
still_faulty stream more k (TooDeep place) i h = (h.0, depth_stays stream more k h.1)
still_faulty stream more k Memory i h = absurd h

pub reading_pushed : (v w : PullView) (stream more : List ℕ) (given : ℕ) → IsReading v stream given → w.state ≡ v.state
    → w.at ≡ v.at → w.unread ≡ v.unread ++ more → w.held ≡ v.held → IsReading w (stream ++ more) given
reading_pushed v w stream more given r s a u h = record {
  told = r.told;
  read = subst (λ k. HasRead (stream ++ more) k w.state r.told) (sym a)
      (subst (λ z. HasRead (stream ++ more) v.at z r.told) (sym s)
      (read_pushed stream more v.at v.state r.told r.read));
  unread = u ∙ ap (λ z. z ++ more) r.unread ∙ sym (drop-append-le v.at stream more r.read.within)
      ∙ ap (λ k. drop k (stream ++ more)) (sym a);
  enough = r.enough;
  held = r.held ∙ ap option_to_list (sym h);
}

not_finished : false ≡ true → ⊥
not_finished e = cc

before_end : (a b : ℕ) → (a < b) ⊎ (false ≡ true) → a < b
before_end a b (inl i) = i
before_end a b (inr e) = absurd (not_finished e)

pub faulty_pushed : (v : PullView) (fault : TextFault) (stream more : List ℕ) (given : ℕ)
    → IsFaulty v fault stream given false → IsFaulty v fault (stream ++ more) given false
faulty_pushed v fault stream more given r =
    let i = before_end v.at (length stream) r.place in
    record {
      state = r.state;
      told = r.told;
      read = read_pushed stream more v.at r.state r.told r.read;
      has_fault = still_faulty stream more v.at fault i r.has_fault;
      place = inl (omega (arith, length-append stream more));
      all_given = r.all_given;
      none_held = r.none_held;
    }

-- a pull that reads, with another buffer
abbrev pub with_unread : Inside → Unread → Inside
with_unread p u = record p { unread = u }

pub stands_pushed : (p : Inside) (u : Unread) (stream more : List ℕ) (given : ℕ) (finished : Bool) → p.stage ≡ Reading
    → u.at ≡ p.unread.at → unread_of u ≡ unread_of p.unread ++ more → Stands (view_of p) stream given finished
    → Stands (view_of (with_unread p u)) (stream ++ more) given finished
stands_pushed p u stream more given finished e a b h =
    stands_reading (view_of (with_unread p u)) (stream ++ more) given finished h.was_finished e
    (reading_pushed (view_of p) (view_of (with_unread p u)) stream more given
    (is_reading (view_of p) stream given finished e h) refl a b refl)

pub stands_kept : (p : Inside) (u : Unread) (stream : List ℕ) (given : ℕ) (finished : Bool) → p.stage ≡ Reading
    → u.at ≡ p.unread.at → unread_of u ≡ unread_of p.unread → Stands (view_of p) stream given finished
    → Stands (view_of (with_unread p u)) stream given finished
stands_kept p u stream given finished e a b h =
    subst (λ z. Stands (view_of (with_unread p u)) z given finished) (append-nil stream)
    (stands_pushed p u stream [] given finished e a (b ∙ sym (append-nil (unread_of p.unread))) h)

machine_kept : (p : Inside) (u : Unread) → u.at ≡ p.unread.at → MachineHolds p.stage p.unread.at p.machine
    → MachineHolds p.stage u.at p.machine
machine_kept p u a h = subst (λ k. MachineHolds p.stage k p.machine) (sym a) h

pub pushed_for_some : (p : Inside) (u : Unread) (more : List ℕ) (r : Result (Unit {0}) AllocError) → p.stage ≡ Reading
    → u.at ≡ p.unread.at → OnOk r (unread_of u ≡ unread_of p.unread ++ more)
    → OnErr r (unread_of u ≡ unread_of p.unread) → StandsForSome p → StandsForSome (with_unread p u)
pushed_for_some p u more (Ok x) e a b c h = record {
  stream = h.stream ++ more;
  given = h.given;
  finished = h.finished;
  stands = stands_pushed p u h.stream more h.given h.finished e a b h.stands;
  machine = machine_kept p u a h.machine;
}
pushed_for_some p u more (Err x) e a b c h = record {
  stream = h.stream;
  given = h.given;
  finished = h.finished;
  stands = stands_kept p u h.stream h.given h.finished e a c h.stands;
  machine = machine_kept p u a h.machine;
}

pub pushed_stands : (p : Inside) (u : Unread) (v : PullView) (stream more : List ℕ) (given : ℕ) (r : Result (Unit {0})
    AllocError) → p.stage ≡ Reading → u.at ≡ p.unread.at → OnOk r (unread_of u ≡ unread_of p.unread ++ more)
    → view_of p ≡ v → Stands v stream given false
    → OnOk r (Stands (view_of (with_unread p u)) (stream ++ more) given false)
pushed_stands p u v stream more given (Ok x) e a b s h =
    stands_pushed p u stream more given false e a b (subst (λ z. Stands z stream given false) (sym s) h)
pushed_stands p u v stream more given (Err x) e a b s h = tt

pub refused_stands : (p : Inside) (u : Unread) (v : PullView) (stream : List ℕ) (given : ℕ) (r : Result (Unit {0})
    AllocError) → p.stage ≡ Reading → u.at ≡ p.unread.at → OnErr r (unread_of u ≡ unread_of p.unread) → view_of p ≡ v
    → Stands v stream given false → OnErr r (Stands (view_of (with_unread p u)) stream given false)
refused_stands p u v stream given (Ok x) e a b s h = tt
refused_stands p u v stream given (Err x) e a b s h =
    stands_kept p u stream given false e a b (subst (λ z. Stands z stream given false) (sym s) h)

-- a pull that doesn't read keeps no bytes
idle_view : (v : PullView) (stream more : List ℕ) (given : ℕ) → ((fault : TextFault) × (v.stage ≡ Faulty fault))
    ⊎ (v.stage ≡ Over) → Stands v stream given false → Stands v (stream ++ more) given false
idle_view v stream more given (inl (fault, e)) h = stands_faulty v fault (stream ++ more) given false h.was_finished e
    (faulty_pushed v fault stream more given (is_faulty v fault stream given false e h))
idle_view v stream more given (inr e) h = absurd (not_finished (is_over v stream given false e h).is_finished)

pub idle_pushed : (p : Inside) (v : PullView) (stream more : List ℕ) (given : ℕ)
    → ((fault : TextFault) × (p.stage ≡ Faulty fault)) ⊎ (p.stage ≡ Over) → view_of p ≡ v → Stands v stream given false
    → Stands v (stream ++ more) given false
idle_pushed p v stream more given e s h =
    subst (λ z. Stands z (stream ++ more) given false) s
    (idle_view (view_of p) stream more given e (subst (λ z. Stands z stream given false) (sym s) h))

-- an event that was held

record HeldEvent (v : PullView) (stream : List ℕ) (given : ℕ) (e : json.Event) : Type 0 where
  reading : IsReading v stream given
  is_reading : v.stage ≡ Reading
  next : drop given reading.told ≡ e ∷ []

none_some : {A : Type 0} (x : A) → None ≡ Some x → ⊥
none_some x e = cc

held_of : (v : PullView) (stream : List ℕ) (given : ℕ) (finished : Bool) (e : json.Event) (stage : Stage)
    → v.stage ≡ stage → v.held ≡ Some e → Stands v stream given finished → HeldEvent v stream given e
held_of v stream given finished e Reading i f h = let r = is_reading v stream given finished i h in
    record { reading = r; is_reading = i; next = r.held ∙ ap option_to_list f }
held_of v stream given finished e (Faulty fault) i f h =
    absurd (none_some e (sym (is_faulty v fault stream given finished i h).none_held ∙ f))
held_of v stream given finished e Over i f h =
    absurd (none_some e (sym (is_over v stream given finished i h).none_held ∙ f))

at_front : (told : List json.Event) (given : ℕ) (e : json.Event) (more : List json.Event) → drop given told ≡ e ∷ more
    → slice_get told given ≡ Some e
at_front [] zero e more h = absurd cc
at_front [] (suc n) e more h = absurd cc
at_front (x ∷ told) zero e more h = let f : x ≡ e = cc in ap Some f
at_front (x ∷ told) (suc n) e more h = at_front told n e more h

-- an event among those that were told
pub is_next : (stream : List ℕ) (k given : ℕ) (s : State) (told more : List json.Event) (e : json.Event)
    → HasRead stream k s told → drop given told ≡ e ∷ more → IsNext stream given e
is_next stream k given s told more e h d =
    let at = at_front told given e more d in
    record {
      due = λ finished. next_due stream finished k given s told e h at;
      of_each = λ rest t x. next_of_each stream rest k given s told e t h at x;
    }

one_further : (told : List json.Event) (given : ℕ) (e : json.Event) (more : List json.Event)
    → drop given told ≡ e ∷ more → (drop (given + 1) told ≡ more) × (given + 1 ≤ length told)
one_further told given e more d =
    let i : length (drop given told) ≡ suc (length more) = ap length d in (
      ap (λ k. drop k told) (omega arith) ∙ sym (drop-drop 1 given told) ∙ ap (drop 1) d,
      omega (arith, length-drop given told),
    )

-- giving the event leaves none held
pub held_given : (p : Inside) (held : Option Event) (v : PullView) (stream : List ℕ) (given : ℕ) (finished : Bool)
    (e : Event) → p.held ≡ Some e → held ≡ None → view_of p ≡ v → Stands v stream given finished
    → IsNext stream given (event_view e) × Stands (view_of (record p { held = held })) stream (given + 1) finished
held_given p held v stream given finished e f g s h =
    let w = view_of p in
    let a = held_of w stream given finished (event_view e) w.stage refl (ap (option_map event_view) f)
    (subst (λ z. Stands z stream given finished) (sym s) h) in
    let b = one_further a.reading.told given (event_view e) [] a.next in
    let r : IsReading (view_of (record p { held = held })) stream (given + 1) =
    record {
      told = a.reading.told;
      read = a.reading.read;
      unread = a.reading.unread;
      enough = b.1;
      held = b.0 ∙ ap option_to_list (sym (ap (option_map event_view) g));
    } in (
      is_next stream w.at given w.state a.reading.told [] (event_view e) a.reading.read a.next,
      stands_reading
          (view_of (record p { held = held })) stream (given + 1) finished
          ((subst (λ z. Stands z stream given finished) (sym s) h).was_finished) a.is_reading r,
    )

pub held_for_some : (p : Inside) (held : Option Event) (e : Event) → p.held ≡ Some e → held ≡ None → StandsForSome p
    → StandsForSome (record p { held = held })
held_for_some p held e f g h = record {
  stream = h.stream;
  given = h.given + 1;
  finished = h.finished;
  stands = (held_given p held (view_of p) h.stream h.given h.finished e f g refl h.stands).1;
  machine = h.machine;
}

-- a fault that was met before

count_at : (stream : List ℕ) (k : ℕ) (s : State) (told : List json.Event) (fault : TextFault) → HasRead stream k s told
    → HasFault stream k fault → (k < length stream) ⊎ (k ≡ length stream) → (f : Bool)
    → IsDueCount stream f (length told)
count_at stream k s told (Syntax place) h f (inl i) b =
    record {
      due = told;
      is_due = due_told stream b k s told h (sound_syntax stream k s told h i f.1) (λ _.
          no_text_at_syntax stream k f.1);
      is_count = refl;
    }
count_at stream k s told (Syntax place) h f (inr e) b =
    record {
      due = told;
      is_due = due_told stream b k s told h (sound_end stream k s told h e) (λ _. no_text_at_syntax stream k f.1);
      is_count = refl;
    }
count_at stream k s told (TooDeep place) h f i b =
    record {
      due = told;
      is_due = due_told stream b k s told h (sound_depth stream k s told h f.1) (λ _. no_text_at_depth stream k f.1);
      is_count = refl;
    }
count_at stream k s told Memory h f i b = absurd f

within_or_end : (k n : ℕ) → k ≤ n → (k < n) ⊎ (k ≡ n)
within_or_end k n h = elim (eq-or-lt_of_le h) [ inl e ↦ inr e | inr l ↦ inl l ]

faulty_is : (v : PullView) (fault : TextFault) (stream : List ℕ) (given : ℕ) (finished : Bool)
    → IsFaulty v fault stream given finished → IsFault stream given finished fault
faulty_is v fault stream given finished r = record {
  at = v.at;
  is_fault = r.has_fault;
  place = r.place;
  count = λ f. subst (IsDueCount stream f) (sym r.all_given)
      (count_at stream v.at r.state r.told fault r.read r.has_fault
      (within_or_end v.at (length stream) r.read.within) f);
}

pub fault_again : (p : Inside) (held : Option Event) (v : PullView) (fault : TextFault) (stream : List ℕ) (given : ℕ)
    (finished : Bool) → p.stage ≡ Faulty fault → p.held ≡ held → view_of p ≡ v → Stands v stream given finished
    → IsFault stream given finished fault × Stands (view_of (record p { held = held })) stream given finished
fault_again p held v fault stream given finished e f s h =
    let w = view_of p in
    let g : Stands w stream given finished = subst (λ z. Stands z stream given finished) (sym s) h in (
      faulty_is w fault stream given finished (is_faulty w fault stream given finished e g),
      subst (λ z. Stands (view_of (record p { held = z })) stream given finished) f g,
    )

-- reading on

record Start (p : Inside) (stream : List ℕ) (given : ℕ) (finished : Bool) : Type 0 where
  told : List json.Event
  has_told : HasTold p.machine p.unread stream told
  all_given : given ≡ length told
  was_finished : p.finished ≡ finished
  is_reading : p.stage ≡ Reading
  none_held : option_map event_view p.held ≡ None

all_of : (told : List json.Event) (given : ℕ) → given ≤ length told → drop given told ≡ [] → given ≡ length told
all_of told given i d = let n : length (drop given told) ≡ 0 = ap length d in omega (arith, length-drop given told)

start_of : (p : Inside) (v : PullView) (stream : List ℕ) (given : ℕ) (finished : Bool) → IsIdle v → view_of p ≡ v
    → MachineHolds p.stage p.unread.at p.machine → Stands v stream given finished → Start p stream given finished
start_of p v stream given finished idle s m h =
    let w = view_of p in
    let stage : p.stage ≡ Reading = ap (λ (z : PullView). z.stage) s ∙ idle.is_reading in
    let none : w.held ≡ None = ap (λ (z : PullView). z.held) s ∙ idle.none_held in
    let g : Stands w stream given finished = subst (λ z. Stands z stream given finished) (sym s) h in
    let r = is_reading w stream given finished stage g in
    record {
      told = r.told;
      has_told = record {
        read = r.read;
        rest = r.unread;
        sound = subst (λ (z : Stage). MachineHolds z p.unread.at p.machine) stage m;
      };
      all_given = all_of r.told given r.enough (r.held ∙ ap option_to_list none);
      was_finished = g.was_finished;
      is_reading = stage;
      none_held = none;
    }

-- the fields behind a call of `read_up_to_event`
abbrev pub behind : Inside → Machine → Unread → Option Event → Stage → Inside
behind p m u held stage = record p { machine = m; unread = u; held = held; stage = stage }

seam : (told more : List json.Event) (given : ℕ) → given ≡ length told → drop given (told ++ more) ≡ more
seam told more given e = ap (λ k. drop k (told ++ more)) e ∙ drop-append_seam told more

still_reading : (p : Inside) (m : Machine) (u : Unread) (held : Option Event) (stage : Stage) (stream : List ℕ) (n : ℕ)
    (finished : Bool) (told : List json.Event) → p.finished ≡ finished → stage ≡ Reading → HasTold m u stream told
    → n ≤ length told → drop n told ≡ option_to_list (option_map event_view held)
    → Stands (view_of (behind p m u held stage)) stream n finished
still_reading p m u held stage stream n finished told f e h i d =
    stands_reading (view_of (behind p m u held stage)) stream n finished f e
    (record { told = told; read = h.read; unread = h.rest; enough = i; held = d })

-- each of these events is the next one in its turn
abbrev pub AreNext : List ℕ → ℕ → List json.Event → Type 0
AreNext stream given [] = Unit {0}
AreNext stream given (e ∷ es) = IsNext stream given e × AreNext stream (given + 1) es

are_next : (stream : List ℕ) (k : ℕ) (s : State) (told es more : List json.Event) (given : ℕ)
    → HasRead stream k s (told ++ (es ++ more)) → given ≡ length told → AreNext stream given es
are_next stream k s told [] more given h e = tt
are_next stream k s told (x ∷ es) more given h e =
    let longer : (told ++ x ∷ []) ++ (es ++ more) ≡ told ++ (x ∷ es ++ more) =
    append_assoc told (x ∷ []) (es ++ more) in (
      is_next stream k given s (told ++ (x ∷ es ++ more)) (es ++ more) x h (seam told (x ∷ es ++ more) given e),
      are_next stream k s (told ++ x ∷ []) es more (given + 1)
          (subst (λ z. HasRead stream k s z) (sym longer) h) (omega (arith, length-append told (x ∷ []))),
    )

-- events were told, and perhaps one more, which is held
pub all_given : (p : Inside) (m : Machine) (u : Unread) (held : Option Event) (v : PullView) (es : List json.Event)
    (stream : List ℕ) (given : ℕ) (finished : Bool) → IsIdle v → view_of p ≡ v
    → MachineHolds p.stage p.unread.at p.machine
    → ((told : List json.Event) → HasTold p.machine p.unread stream told
    → HasTold m u stream (told ++ (es ++ option_to_list (option_map event_view held)))) → Stands v stream given finished
    → AreNext stream given es × Stands (view_of (behind p m u held p.stage)) stream (given + length es) finished
all_given p m u held v es stream given finished idle s i reads h =
    let a = start_of p v stream given finished idle s i h in
    let rest = option_to_list (option_map event_view held) in
    let all = reads a.told a.has_told in
    let longer : (a.told ++ es) ++ rest ≡ a.told ++ (es ++ rest) = append_assoc a.told es rest in
    let n : given + length es ≡ length (a.told ++ es) = omega (arith, length-append a.told es, a.all_given) in (
      are_next stream u.at (state_of m) a.told es rest given all.read a.all_given,
      still_reading p m u held p.stage
          stream (given + length es) finished (a.told ++ (es ++ rest)) a.was_finished a.is_reading all
          (omega (arith, ap length longer, length-append (a.told ++ es) rest))
          (ap (drop (given + length es)) (sym longer) ∙ seam (a.told ++ es) rest (given + length es) n),
    )

-- an event was told, and perhaps a second one, which is held
pub told_given : (p : Inside) (m : Machine) (u : Unread) (held : Option Event) (v : PullView) (e : json.Event)
    (stream : List ℕ) (given : ℕ) (finished : Bool) → IsIdle v → view_of p ≡ v
    → MachineHolds p.stage p.unread.at p.machine
    → ((told : List json.Event) → HasTold p.machine p.unread stream told
    → HasTold m u stream (told ++ e ∷ option_to_list (option_map event_view held))) → Stands v stream given finished
    → IsNext stream given e × Stands (view_of (behind p m u held p.stage)) stream (given + 1) finished
told_given p m u held v e stream given finished idle s i reads h =
    let a = all_given p m u held v (e ∷ []) stream given finished idle s i reads h in (a.0.0, a.1)

-- nothing was told
pub nothing_told : (p : Inside) (m : Machine) (u : Unread) (v : PullView) (stream : List ℕ) (given : ℕ)
    (finished : Bool) → IsIdle v → view_of p ≡ v → MachineHolds p.stage p.unread.at p.machine
    → ((told : List json.Event) → HasTold p.machine p.unread stream told → HasTold m u stream told)
    → Stands v stream given finished → Stands (view_of (behind p m u p.held p.stage)) stream given finished
nothing_told p m u v stream given finished idle s i reads h =
    let a = start_of p v stream given finished idle s i h in
    still_reading p m u p.held p.stage stream given finished a.told a.was_finished a.is_reading
    (reads a.told a.has_told) (omega (arith, a.all_given))
    (ap (drop given) (sym (append-nil a.told)) ∙ seam a.told [] given a.all_given
    ∙ ap option_to_list (sym a.none_held))

-- nothing was told, and the bytes are used
pub all_used : (p : Inside) (m : Machine) (u : Unread) (v : PullView) (stream : List ℕ) (given : ℕ) (finished : Bool)
    → IsIdle v → view_of p ≡ v → MachineHolds p.stage p.unread.at p.machine
    → ((told : List json.Event) → HasTold p.machine p.unread stream told → HasTold m u stream told
    × (u.at ≡ length stream)) → Stands v stream given finished
    → IsUsedUp (view_of (behind p m u p.held p.stage)) stream given
    × Stands (view_of (behind p m u p.held p.stage)) stream given finished
all_used p m u v stream given finished idle s i reads h =
    let a = start_of p v stream given finished idle s i h in
    let r = reads a.told a.has_told in (
      record {
        is_reading = a.is_reading;
        told = a.told;
        read = r.0.read;
        at_end = r.1;
        all_given = a.all_given;
        none_held = a.none_held;
      },
      nothing_told p m u v stream given finished idle s i (λ told x. (reads told x).0) h,
    )

-- the next byte has a fault
pub fault_met : (p : Inside) (m : Machine) (u : Unread) (v : PullView) (fault : TextFault) (stream : List ℕ) (given : ℕ)
    (finished : Bool) → IsIdle v → view_of p ≡ v → MachineHolds p.stage p.unread.at p.machine
    → ((told : List json.Event) → HasTold p.machine p.unread stream told → HasStopped u stream told
    × HasFault stream u.at fault) → Stands v stream given finished → IsFault stream given finished fault
    × Stands (view_of (behind p m u p.held (Faulty fault))) stream given finished
fault_met p m u v fault stream given finished idle s i reads h =
    let a = start_of p v stream given finished idle s i h in
    let r = reads a.told a.has_told in
    let w = view_of (behind p m u p.held (Faulty fault)) in
    let b : IsFaulty w fault stream given finished = record {
      state = r.0.state;
      told = a.told;
      read = r.0.read;
      has_fault = r.1;
      place = inl r.0.within;
      all_given = a.all_given;
      none_held = a.none_held;
    } in
    (faulty_is w fault stream given finished b, stands_faulty w fault stream given finished a.was_finished refl b)

-- what is told of a stream is sound
pub told_is_sound : (p : Inside) (m : Machine) (u : Unread) (v : PullView) (es : List json.Event) → IsIdle v
    → view_of p ≡ v → ((stream : List ℕ) (told : List json.Event) → HasTold p.machine p.unread stream told
    → HasTold m u stream (told ++ es)) → StandsForSome p → AreSound es
told_is_sound p m u v es idle s reads h =
    let a = start_of p (view_of p) h.stream h.given h.finished (subst IsIdle (sym s) idle) refl h.machine h.stands in
    let r = reads h.stream a.told a.has_told in
    last_sound a.told es (told_sound h.stream u.at (state_of m) (a.told ++ es) r.read)

holds_behind : (p : Inside) (m : Machine) (u : Unread) (stage : Stage) → stage ≡ Reading → IsSound u.at m
    → MachineHolds stage u.at m
holds_behind p m u stage e s = subst (λ (z : Stage). MachineHolds z u.at m) (sym e) s

pub for_some_all : (p : Inside) (m : Machine) (u : Unread) (held : Option Event) (v : PullView) (es : List json.Event)
    → IsIdle v → view_of p ≡ v → ((stream : List ℕ) (told : List json.Event) → HasTold p.machine p.unread stream told
    → HasTold m u stream (told ++ (es ++ option_to_list (option_map event_view held)))) → StandsForSome p
    → StandsForSome (behind p m u held p.stage)
for_some_all p m u held v es idle s reads h =
    let w = view_of p in
    let own : IsIdle w = subst IsIdle (sym s) idle in
    let a = start_of p w h.stream h.given h.finished own refl h.machine h.stands in
    record {
      stream = h.stream;
      given = h.given + length es;
      finished = h.finished;
      stands = (all_given p m u held w es h.stream h.given h.finished own refl h.machine (reads h.stream) h.stands).1;
      machine = holds_behind p m u p.stage own.is_reading (reads h.stream a.told a.has_told).sound;
    }

pub for_some_told : (p : Inside) (m : Machine) (u : Unread) (held : Option Event) (v : PullView) (e : json.Event)
    → IsIdle v → view_of p ≡ v → ((stream : List ℕ) (told : List json.Event) → HasTold p.machine p.unread stream told
    → HasTold m u stream (told ++ e ∷ option_to_list (option_map event_view held))) → StandsForSome p
    → StandsForSome (behind p m u held p.stage)
for_some_told p m u held v e idle s reads h = for_some_all p m u held v (e ∷ []) idle s reads h

pub for_some_quiet : (p : Inside) (m : Machine) (u : Unread) (v : PullView) → IsIdle v → view_of p ≡ v
    → ((stream : List ℕ) (told : List json.Event) → HasTold p.machine p.unread stream told → HasTold m u stream told)
    → StandsForSome p → StandsForSome (behind p m u p.held p.stage)
for_some_quiet p m u v idle s reads h =
    let w = view_of p in
    let own : IsIdle w = subst IsIdle (sym s) idle in
    let a = start_of p w h.stream h.given h.finished own refl h.machine h.stands in
    record {
      stream = h.stream;
      given = h.given;
      finished = h.finished;
      stands = nothing_told p m u w h.stream h.given h.finished own refl h.machine (reads h.stream) h.stands;
      machine = holds_behind p m u p.stage own.is_reading (reads h.stream a.told a.has_told).sound;
    }

pub for_some_fault : (p : Inside) (m : Machine) (u : Unread) (v : PullView) (fault : TextFault) → IsIdle v
    → view_of p ≡ v → ((stream : List ℕ) (told : List json.Event) → HasTold p.machine p.unread stream told
    → HasStopped u stream told × HasFault stream u.at fault) → StandsForSome p
    → StandsForSome (behind p m u p.held (Faulty fault))
for_some_fault p m u v fault idle s reads h =
    let w = view_of p in
    let own : IsIdle w = subst IsIdle (sym s) idle in
    record {
      stream = h.stream;
      given = h.given;
      finished = h.finished;
      stands = (fault_met p m u w fault h.stream h.given h.finished own refl h.machine (reads h.stream) h.stands).1;
      machine = tt;
    }

-- what `read_up_to_event` says, in the words of a pull

abbrev Reads : Inside → Machine → Unread → reading.Reading → Type 0
Reads p m u r = (stream : List ℕ) (told : List json.Event) → HasTold p.machine p.unread stream told
    → ReadsOn (Ok r) m u stream told

-- one event, and none held
pub alone : (p : Inside) (m : Machine) (u : Unread) (v : PullView) (e : raw.RawEvent) → IsIdle v → view_of p ≡ v
    → Reads p m u (reads.One e) → (stream : List ℕ) (told : List json.Event) → HasTold p.machine p.unread stream told
    → HasTold m u stream (told ++ event_of e ∷ option_to_list (option_map event_view p.held))
alone p m u v e idle s f stream told h =
    let none : option_map event_view p.held ≡ None = ap (λ (z : PullView). z.held) s ∙ idle.none_held in
    subst (λ z. HasTold m u stream (told ++ event_of e ∷ option_to_list z)) (sym none) (f stream told h)

-- two events, the second held
pub both : (p : Inside) (m : Machine) (u : Unread) (d e : raw.RawEvent) (held : Event) → event_view held ≡ event_of e
    → Reads p m u (reads.Two d e) → (stream : List ℕ) (told : List json.Event) → HasTold p.machine p.unread stream told
    → HasTold m u stream (told ++ event_of d ∷ option_to_list (option_map event_view (Some held)))
both p m u d e held f g stream told h =
    subst (λ z. HasTold m u stream (told ++ event_of d ∷ z ∷ [])) (sym f) (g stream told h)

-- a byte that cannot follow
pub refused_there : (p : Inside) (m : Machine) (u : Unread) (at : ℕ) → at ≡ u.at → Reads p m u reads.Refused
    → (stream : List ℕ) (told : List json.Event) → HasTold p.machine p.unread stream told → HasStopped u stream told
    × HasFault stream u.at (Syntax at)
refused_there p m u at e f stream told h = let r = f stream told h in (r.0, (e, r.1, r.2))

-- a byte that opens a level too many
pub deep_there : (p : Inside) (m : Machine) (u : Unread) (at : ℕ) → at ≡ u.at → Reads p m u reads.TooDeep
    → (stream : List ℕ) (told : List json.Event) → HasTold p.machine p.unread stream told → HasStopped u stream told
    × HasFault stream u.at (TooDeep at)
deep_there p m u at e f stream told h = let r = f stream told h in (r.0, (e, r.1))

-- a step that failed for memory
pub steps_err : (r : Result Step AllocError) (v : PullView) (stream : List ℕ) (given : ℕ) (finished : Bool) → IsErr r
    → Stands v stream given finished → Steps r v stream given finished
steps_err (Ok x) v stream given finished e h = absurd cc
steps_err (Err x) v stream given finished e h = h

-- the end of the stream

read_cut : (stream : List ℕ) (k : ℕ) (s : State) (told : List json.Event) → HasRead stream k s told
    → HasRead (take k stream) k s told
read_cut stream k s told h =
    let len : length (take k stream) ≡ k = length-take-le k stream h.within in
    let same : take k (take k stream) ≡ take k stream = take_all k (take k stream) (omega arith) in
    record {
      within = omega arith;
      runs = subst (λ z. run 0 (st [] want) z ≡ Some (s, told)) (sym same) h.runs;
      sound = subst IsShallowPrefix (sym same) h.sound;
    }

-- the fields behind the end
abbrev pub ended : Inside → Stage → Inside
ended p stage = record p { stage = stage; finished = true }

-- a stream that is no text
cut_faulty : (p : Inside) (at : ℕ) (stream : List ℕ) (told : List json.Event) → at ≡ p.unread.at
    → (option_map event_view p.held ≡ None) → HasRead stream p.unread.at (state_of p.machine) told
    → p.unread.at ≡ length stream → is_some (ending (state_of p.machine).levels (state_of p.machine).mode) ≡ false
    → IsFaulty (view_of (ended p (Faulty (Syntax at)))) (Syntax at) stream (length told) true
cut_faulty p at stream told a none h e i =
    let f = read_short stream p.unread.at (state_of p.machine) told h e i in
    record {
      state = state_of p.machine;
      told = told;
      read = h;
      has_fault = (a, f.0, f.1);
      place = inr refl;
      all_given = refl;
      none_held = none;
    }

pub cut_for_some : (p : Inside) (v : PullView) (at : ℕ) (may : Bool) → at ≡ p.unread.at → IsIdle v → view_of p ≡ v
    → may ≡ is_some (ending (state_of p.machine).levels (state_of p.machine).mode) → may ≡ false → StandsForSome p
    → StandsForSome (ended p (Faulty (Syntax at)))
cut_for_some p v at may a idle s e i h =
    let b = start_of p (view_of p) h.stream h.given h.finished (subst IsIdle (sym s) idle) refl h.machine h.stands in
    let cut = take p.unread.at h.stream in
    let n : p.unread.at ≡ length cut = sym (length-take-le p.unread.at h.stream b.has_told.read.within) in
    let r = read_cut h.stream p.unread.at (state_of p.machine) b.told b.has_told.read in
    record {
      stream = cut;
      given = length b.told;
      finished = true;
      stands = stands_faulty (view_of (ended p (Faulty (Syntax at)))) (Syntax at) cut (length b.told) true refl refl
          (cut_faulty p at cut b.told a b.none_held r n (sym e ∙ i));
      machine = tt;
    }

-- what all bytes told
record AtEnd (p : Inside) (stream : List ℕ) (given : ℕ) : Type 0 where
  told : List json.Event
  read : HasRead stream p.unread.at (state_of p.machine) told
  at_end : p.unread.at ≡ length stream
  all_given : given ≡ length told
  none_held : option_map event_view p.held ≡ None

at_end_of : (p : Inside) (v : PullView) (stream : List ℕ) (given : ℕ) → view_of p ≡ v
    → IsUsedUp v stream given → AtEnd p stream given
at_end_of p v stream given s h = let g : IsUsedUp (view_of p) stream given =
    subst (λ z. IsUsedUp z stream given) (sym s) h in
    record { told = g.told; read = g.read; at_end = g.at_end; all_given = g.all_given; none_held = g.none_held }

pub cut_concludes : (p : Inside) (v : PullView) (at : ℕ) (may : Bool) (stream : List ℕ) (given : ℕ) → at ≡ p.unread.at
    → view_of p ≡ v → may ≡ is_some (ending (state_of p.machine).levels (state_of p.machine).mode) → may ≡ false
    → IsUsedUp v stream given → IsSyntaxFault stream at × IsShallow stream at × IsDueCount stream true given
    × Stands (view_of (ended p (Faulty (Syntax at)))) stream given true
cut_concludes p v at may stream given a s e i h =
    let b = at_end_of p v stream given s h in
    let w = view_of (ended p (Faulty (Syntax at))) in
    let r : IsFaulty w (Syntax at) stream given true = subst (λ n. IsFaulty w (Syntax at) stream n true)
    (sym b.all_given) (cut_faulty p at stream b.told a b.none_held b.read b.at_end (sym e ∙ i)) in
    let f = faulty_is w (Syntax at) stream given true r in
    let g = read_short stream p.unread.at (state_of p.machine) b.told b.read b.at_end (sym e ∙ i) in (
      subst (IsSyntaxFault stream) (sym a) g.0,
      subst (IsShallow stream) (sym a) g.1,
      f.count true,
      stands_faulty w (Syntax at) stream given true refl refl r,
    )

-- a stream that is a text
over_at : (p : Inside) (stream : List ℕ) (all : List json.Event) → option_map event_view p.held ≡ None
    → IsWhole stream all → Stands (view_of (ended p Over)) stream (length all) true
over_at p stream all none w = record {
  was_finished = refl;
  stands = record {
    is_finished = refl;
    tree = w.tree;
    text = w.text;
    shallow = w.shallow;
    all_given = ap length (sym w.events);
    none_held = none;
  };
}

pub over_for_some : (p : Inside) (v : PullView) (last : List json.Event) → IsIdle v → view_of p ≡ v
    → ending (state_of p.machine).levels (state_of p.machine).mode ≡ Some last → StandsForSome p
    → StandsForSome (ended p Over)
over_for_some p v last idle s e h =
    let b = start_of p (view_of p) h.stream h.given h.finished (subst IsIdle (sym s) idle) refl h.machine h.stands in
    let cut = take p.unread.at h.stream in
    let n : p.unread.at ≡ length cut = sym (length-take-le p.unread.at h.stream b.has_told.read.within) in
    let r = read_cut h.stream p.unread.at (state_of p.machine) b.told b.has_told.read in
    let w = read_whole cut p.unread.at (state_of p.machine) b.told last r n e in
    record {
      stream = cut;
      given = length (b.told ++ last);
      finished = true;
      stands = over_at p cut (b.told ++ last) b.none_held w;
      machine = tt;
    }

pub last_is_sound : (p : Inside) (v : PullView) (last : List json.Event) → IsIdle v → view_of p ≡ v
    → ending (state_of p.machine).levels (state_of p.machine).mode ≡ Some last → StandsForSome p → AreSound last
last_is_sound p v last idle s e h =
    let b = start_of p (view_of p) h.stream h.given h.finished (subst IsIdle (sym s) idle) refl h.machine h.stands in
    let cut = take p.unread.at h.stream in
    let n : p.unread.at ≡ length cut = sym (length-take-le p.unread.at h.stream b.has_told.read.within) in
    let r = read_cut h.stream p.unread.at (state_of p.machine) b.told b.has_told.read in
    let w = read_whole cut p.unread.at (state_of p.machine) b.told last r n e in
    last_sound b.told last (subst AreSound w.events (text_sound w.text))

pub done_concludes : (p : Inside) (v : PullView) (stream : List ℕ) (given : ℕ) → view_of p ≡ v
    → ending (state_of p.machine).levels (state_of p.machine).mode ≡ Some [] → IsUsedUp v stream given
    → IsGivenText stream given × Stands (view_of (ended p Over)) stream given true
done_concludes p v stream given s e h =
    let b = at_end_of p v stream given s h in
    let w = read_whole stream p.unread.at (state_of p.machine) b.told [] b.read b.at_end e in
    let n : length (b.told ++ []) ≡ given = ap length (append-nil b.told) ∙ sym b.all_given in (
      record { tree = w.tree; text = w.text; shallow = w.shallow; count = sym n ∙ ap length (sym w.events) },
      subst (λ z. Stands (view_of (ended p Over)) stream z true) n (over_at p stream (b.told ++ []) b.none_held w),
    )

pub last_concludes : (p : Inside) (v : PullView) (e : json.Event) (stream : List ℕ) (given : ℕ) → view_of p ≡ v
    → ending (state_of p.machine).levels (state_of p.machine).mode ≡ Some (e ∷ []) → IsUsedUp v stream given
    → IsLast stream given e × Stands (view_of (ended p Over)) stream (given + 1) true
last_concludes p v e stream given s f h =
    let b = at_end_of p v stream given s h in
    let all = b.told ++ e ∷ [] in
    let w = read_whole stream p.unread.at (state_of p.machine) b.told (e ∷ []) b.read b.at_end f in
    let n : length all ≡ given + 1 = omega (arith, length-append b.told (e ∷ []), b.all_given) in
    let there : slice_get all given ≡ Some e = at_front all given e [] (seam b.told (e ∷ []) given b.all_given) in (
      record {
        due =
            record {
              due = all;
              is_due = due_whole stream p.unread.at (state_of p.machine) b.told all b.read b.at_end w;
              is_next = there;
            };
        of_text = λ t x. ap (λ z. slice_get (events_of z) given) (one_tree stream t w.tree x w.text)
            ∙ ap (λ z. slice_get z given) w.events ∙ there;
      },
      subst (λ z. Stands (view_of (ended p Over)) stream z true) n (over_at p stream all b.none_held w),
    )

pub concluded_last : (r : Result Pulled TextFault) (event : Event) (e : json.Event) (v : PullView) (stream : List ℕ)
    (given : ℕ) → r ≡ Ok (pulled.Event event) → event_view event ≡ e
    → IsLast stream given e × Stands v stream (given + 1) true → Concludes r v stream given
concluded_last r event e v stream given f g h = subst (λ (z : Result Pulled TextFault). Concludes z v stream given)
    (sym f) (subst (IsLast stream given) (sym g) h.0, h.1)

pub concluded_done : (r : Result Pulled TextFault) (v : PullView) (stream : List ℕ) (given : ℕ) → r ≡ Ok pulled.Done
    → IsGivenText stream given × Stands v stream given true → Concludes r v stream given
concluded_done r v stream given f h = subst (λ (z : Result Pulled TextFault). Concludes z v stream given) (sym f) h

-- all that is due is given
pub used_count : (v : PullView) (stream : List ℕ) (given : ℕ) → IsUsedUp v stream given → IsDueCount stream false given
used_count v stream given h = record {
  due = h.told;
  is_due = due_told stream false v.at v.state h.told h.read (sound_end stream v.at v.state h.told h.read h.at_end)
      (λ e t. not_finished e);
  is_count = h.all_given;
}

-- the stream itself begins with the stream
pub next_of_stream : (stream : List ℕ) (given : ℕ) (e : json.Event) (t : Tree) → IsNext stream given e → IsText stream t
    → slice_get (events_of t) given ≡ Some e
next_of_stream stream given e t h x = h.of_each [] t (subst (λ z. IsText z t) (sym (append-nil stream)) x)
