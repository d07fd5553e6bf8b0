-- A number that is told by its count is the next event.
use Rattle.std.specs.Prelude.{◌⊎◌, ℤ, Bool}
use Rattle.std.specs.List.{prefix_len}
use Rattle.std.specs.Option.{option_map, option_to_list}
use Rattle.std.proofs.Common.{◌≡◌, ℕ, ◌+◌, ◌≤◌, List, [], ◌∷◌, ◌++◌, length, take, drop, Option, Some, false, inl}
use Rattle.std.proofs.Common.{inr, refl, sym, ◌∙◌, ap, subst, arith}
use Rattle.std.proofs.lemmas.List.{drop-drop}
use Rattle.std.proofs.lemmas.List.Sums.{prefix_len-le-length}
use Rattle.json_events.specs.Counts.{IsNextCount}
use Rattle.decimal_numbers.specs.Exact.{fixed}
use Rattle.json_machine.specs.Machines.{state_of, levels_of, mode_of, IsSound}
use Rattle.json_machine.specs.NumberRuns.{TakesWithEnd}
use Rattle.json_events.specs.PullViews.{PullView}
use Rattle.json_events.specs.Pulls.{Stands, StandsForSome, MachineHolds, view_of}
use Rattle.json_events.specs.CountedNumbers.{TellsCount, IsCounted}
use Rattle.json_events.specs.Steps.{IsNext, IsIdle}
use Rattle.json_events.specs.Unreads.{unread_of}
use Rattle.json_machine.specs.declared.machine.Machine.{Machine}
use Rattle.json_machine.specs.declared.machine.Mode.TheVariants.{Want, First}
use Rattle.json_events.specs.declared.pull.Pull.TheInside.{Inside}
use Rattle.json_events.specs.declared.unread.Unread.{Unread}
use Rattle.json_grammar.specs.Stream.{IsNextDue, IsNextOfEach}
use Rattle.json_grammar.specs.Events.{event_view}
use Rattle.json_grammar.specs.laws.Machine as machine
use Rattle.json_grammar.specs.laws.Machine.{State, st, want, first, is_blank, run}
use Rattle.json_grammar.specs.laws.Reads.{HasRead}
use Rattle.json_grammar.specs.Tree.{Event}
use Rattle.json_grammar.specs.declared.event.Event as json
use Rattle.json_grammar.proofs.LawsForward.{Waits, in_want, in_first}
use Rattle.json_events.proofs.ReadingLemmas.{quiet_read, ended_read, rest_behind}
use Rattle.json_machine.proofs.PlainNumbers.{value_mode}
use Rattle.json_machine.proofs.Runs.{blanks_taken}
use Rattle.json_events.proofs.Standing.{behind, told_given, for_some_told}

-- where a value may come, blanks change nothing
pub waits : (mode : machine.Mode) → (mode ≡ want) ⊎ (mode ≡ first) → Waits mode
waits mode (inl e) = subst Waits (sym e) in_want
waits mode (inr e) = subst Waits (sym e) in_first

-- blanks, a token and the byte behind it, from an offset on
pub item_read : (stream rest : List ℕ) (at blanks size : ℕ) (levels : List Bool) (mode : machine.Mode) (t : State)
    (events told : List Event) → Waits mode → blanks ≡ prefix_len is_blank rest
    → HasRead stream at (st levels mode) told → rest ≡ drop at stream
    → TakesWithEnd (at + blanks) (st levels mode) (drop blanks rest) size events t
    → HasRead stream (at + blanks + (size + 1)) t (told ++ events)
item_read stream rest at blanks size levels mode t events told w skip h r is =
    let s = st levels mode in
    let quiet : run at s (take blanks rest) ≡ Some (s, []) = rw skip (blanks_taken at levels rest w) in
    let fits : blanks ≤ length rest = rw skip (prefix_len-le-length is_blank rest) in
    ended_read stream (drop blanks rest) (at + blanks) size s t events told
    (quiet_read stream rest at blanks s s told h r fits quiet) (ap (drop blanks) r ∙ drop-drop blanks at stream) is

-- the same of a machine and a buffer
pub count_told : (m n : Machine) (u v w : Unread) (blanks size : ℕ) (rest : List ℕ) (count : ℤ) (more : ℕ → List Event)
    → (m.mode ≡ Want) ⊎ (m.mode ≡ First) → blanks ≡ prefix_len is_blank (unread_of u) → v.at ≡ u.at + blanks
    → unread_of v ≡ drop blanks (unread_of u) → rest ≡ drop blanks (unread_of u)
    → ((k : ℕ) → TakesWithEnd k (state_of m) rest size (Event.number k (take size rest) ∷ more k) (state_of n))
    → fixed (take size rest) ≡ Some (count, false) → ((k i : ℕ) → IsSound k m → IsSound i n)
    → w.at ≡ v.at + (size + 1) → unread_of w ≡ drop (size + 1) (unread_of v)
    → TellsCount v.at count (more v.at) m u n w
count_told m n u v w blanks size rest count more mode skip a b same takes exact sound c d =
    let events = Event.number v.at (take size rest) ∷ more v.at in
    let there : TakesWithEnd (u.at + blanks) (state_of m) (drop blanks (unread_of u)) size events (state_of n) =
    subst (λ (z : List ℕ). TakesWithEnd (u.at + blanks) (state_of m) z size events (state_of n)) same
    (subst (λ (k : ℕ). TakesWithEnd k (state_of m) rest size events (state_of n)) a (takes v.at)) in
    let end : u.at + blanks + (size + 1) ≡ w.at = omega arith in
    record {
      token = take size rest;
      exact = exact;
      tells = λ stream told h. record {
        read = subst (λ z. HasRead stream z (state_of n) (told ++ events)) end
            (item_read stream (unread_of u) u.at blanks size (levels_of m.levels.items)
            (mode_of m.mode m.at m.token.items) (state_of n) events told
            (waits (mode_of m.mode m.at m.token.items) (value_mode m.mode m.at m.token.items mode)) skip h.read h.rest
            there);
        rest = rest_behind v w (size + 1) stream (rest_behind u v blanks stream h.rest a b) c d;
        sound = sound u.at w.at h.sound;
      };
    }

-- the next event, where it is a number of that count
pub next_count : (stream : List ℕ) (given : ℕ) (e : Event) (count : ℤ) → IsNext stream given e
    → (is : IsCounted e count) → IsNextCount stream given is.at count
next_count stream given e count next is = record {
  token = is.token;
  due = subst (IsNextDue stream false given) is.is_number (next.due false);
  next = subst (IsNextOfEach stream given) is.is_number next.of_each;
  exact = is.exact;
}

pub count_given : (p : Inside) (v : PullView) (m : Machine) (u : Unread) (held : Option json.Event) (at : ℕ) (count : ℤ)
    (stream : List ℕ) (given : ℕ) → IsIdle v → view_of p ≡ v → MachineHolds p.stage p.unread.at p.machine
    → TellsCount at count (option_to_list (option_map event_view held)) p.machine p.unread m u
    → Stands v stream given false
    → IsNextCount stream given at count × Stands (view_of (behind p m u held p.stage)) stream (given + 1) false
count_given p v m u held at count stream given idle s i t h =
    let e = Event.number at t.token in
    let a = told_given p m u held v e stream given false idle s i (t.tells stream) h in
    let is : IsCounted e count = record { at = at; token = t.token; is_number = refl; exact = t.exact } in
    (next_count stream given e count a.0 is, a.1)

pub count_for_some : (p : Inside) (v : PullView) (m : Machine) (u : Unread) (held : Option json.Event) (at : ℕ)
    (count : ℤ) → IsIdle v → view_of p ≡ v
    → TellsCount at count (option_to_list (option_map event_view held)) p.machine p.unread m u → StandsForSome p
    → StandsForSome (behind p m u held p.stage)
count_for_some p v m u held at count idle s t h =
    for_some_told p m u held v (Event.number at t.token) idle s t.tells h

-- nothing was read
pub unchanged_for_some : (p : Inside) (m : Machine) (u : Unread) → m ≡ p.machine → u ≡ p.unread → StandsForSome p
    → StandsForSome (behind p m u p.held p.stage)
unchanged_for_some p m u e f h = subst (λ (z : Machine). StandsForSome (behind p z u p.held p.stage)) (sym e)
    (subst (λ (z : Unread). StandsForSome (behind p p.machine z p.held p.stage)) (sym f) h)
