-- Numbers of a list that are read in one go are what the machine reads of their bytes.
use Rattle.std.specs.Prelude.{◌⊎◌, ℤ, Bool}
use Rattle.std.proofs.Common.{◌≡◌, ℕ, ◌+◌, ◌≤◌, ◌<◌, List, [], ◌∷◌, ◌++◌, length, take, drop, inl, refl, sym, ◌∙◌, ap}
use Rattle.std.proofs.Common.{subst, append-nil, append_assoc, length-drop, arith}
use Rattle.std.proofs.lemmas.List.{drop-drop}
use Rattle.json_grammar.specs.Tree.{Event}
use Rattle.json_grammar.specs.laws.Machine.{Mode, st, want, first, go, after_step}
use Rattle.json_grammar.specs.laws.Reads.{HasRead}
use Rattle.json_machine.specs.Machines.{state_of, levels_of, mode_of, IsSound}
use Rattle.json_machine.specs.NumberRuns.{TakesWithEnd, AwaitsItem}
use Rattle.json_machine.proofs.PlainNumbers.{number_ended, value_mode}
use Rattle.json_machine.specs.declared.machine.Machine.{Machine}
use Rattle.json_events.specs.CountedNumbers.{IsCountedItem, AreCountedRuns, IsCounted, AreCounted, TellsCounts}
use Rattle.json_events.specs.Unreads.{unread_of}
use Rattle.json_events.specs.declared.unread.Unread.{Unread}
use Rattle.json_events.proofs.ReadingLemmas.{rest_behind}
use Rattle.json_events.proofs.CountTold.{item_read, waits}

pub item_within : (bs : List ℕ) (n : ℕ) (count : ℤ) → IsCountedItem bs n count → n ≤ length bs
item_within bs n count item = omega (arith, item.all, item.run.within, length-drop item.blanks bs)

-- one more
counted_more : (es : List Event) (cs : List ℤ) (e : Event) (c : ℤ) → AreCounted es cs → IsCounted e c
    → AreCounted (es ++ e ∷ []) (cs ++ c ∷ [])
counted_more [] [] e c h is = (is, tt)
counted_more (d ∷ es) (b ∷ cs) e c h is = (h.0, counted_more es cs e c h.1 is)
counted_more [] (b ∷ cs) e c h is = absurd h
counted_more (d ∷ es) [] e c h is = absurd h

-- what a machine with these open levels reads of such bytes from an offset on
record ItemsRead (bytes : List ℕ) (at : ℕ) (levels : List Bool) (mode : Mode) (counts : List ℤ)
    (used : ℕ) : Type 0 where
  last : Mode
  value : (last ≡ want) ⊎ (last ≡ first)
  behind : 0 < length counts → last ≡ want
  events : List Event
  counted : AreCounted events counts
  reads : (stream : List ℕ) (told : List Event) → HasRead stream at (st levels mode) told → bytes ≡ drop at stream
      → HasRead stream (at + used) (st levels last) (told ++ events)

items_read : {bytes : List ℕ} {counts : List ℤ} {used : ℕ} (at : ℕ) (levels : List Bool) (mode : Mode)
    → (mode ≡ want) ⊎ (mode ≡ first) → ((k : ℕ) → after_step k levels 44 ≡ go levels want)
    → AreCountedRuns bytes counts used → ItemsRead bytes at levels mode counts used
items_read at levels mode v comma AreCountedRuns.none = record {
  last = mode;
  value = v;
  behind = λ h. absurd (omega arith);
  events = [];
  counted = tt;
  reads = λ stream told h e.
      let end : at ≡ at + 0 = omega arith in
      subst (λ es. HasRead stream (at + 0) (st levels mode) es) (sym (append-nil told))
      (subst (λ k. HasRead stream k (st levels mode) told) end h);
}
items_read {bytes} at levels mode v comma (AreCountedRuns.more {counts} {used} {next} {count} runs item) =
    let before = items_read at levels mode v comma runs in
    let rest = drop used bytes in
    let number = drop item.blanks rest in
    let place = at + used + item.blanks in
    let token = take item.size number in
    let event = Event.number place token in
    let takes : TakesWithEnd place (st levels before.last) number item.size (event ∷ []) (st levels want) =
    number_ended place item.size 44 levels before.last (st levels want) [] number token item.run.to before.value
    item.run.begins item.run.within item.run.comma (comma (place + item.size)) (omega arith) refl in
    let is : IsCounted event count = record { at = place; token = token; is_number = refl; exact = item.run.exact } in
    let end : place + (item.size + 1) ≡ at + (used + next) = omega (arith, item.all) in
    record {
      last = want;
      value = inl refl;
      behind = λ _. refl;
      events = before.events ++ event ∷ [];
      counted = counted_more before.events counts event count before.counted is;
      reads = λ stream told h e.
          let there : rest ≡ drop (at + used) stream = ap (drop used) e ∙ drop-drop used at stream in
          let read = item_read stream rest (at + used) item.blanks item.size levels before.last (st levels want)
          (event ∷ []) (told ++ before.events) (waits before.last before.value) item.skips
          (before.reads stream told h e) there takes in
          subst (λ es. HasRead stream (at + (used + next)) (st levels want) es)
          (append_assoc told before.events (event ∷ []))
          (subst (λ k. HasRead stream k (st levels want) ((told ++ before.events) ++ event ∷ [])) end read);
    }

-- numbers of a list, at least one
pub counts_told : (m n : Machine) (u v : Unread) (counts : List ℤ) (used : ℕ) → AwaitsItem m
    → AreCountedRuns (unread_of u) counts used → 0 < length counts
    → state_of n ≡ st (levels_of m.levels.items) want → ((k i : ℕ) → IsSound k m → IsSound i n)
    → v.at ≡ u.at + used → unread_of v ≡ drop used (unread_of u) → TellsCounts counts m u n v
counts_told m n u v counts used awaits runs some state sound a d =
    let levels = levels_of m.levels.items in
    let is = items_read u.at levels (mode_of m.mode m.at m.token.items)
    (value_mode m.mode m.at m.token.items awaits.value) awaits.comma runs in
    let last : st levels is.last ≡ state_of n = ap (st levels) (is.behind some) ∙ sym state in
    record {
      events = is.events;
      counted = is.counted;
      tells = λ stream told h. record {
        read = subst (λ k. HasRead stream k (state_of n) (told ++ is.events)) (sym a)
            (subst (λ s. HasRead stream (u.at + used) s (told ++ is.events)) last (is.reads stream told h.read h.rest));
        rest = rest_behind u v used stream h.rest a d;
        sound = sound u.at v.at h.sound;
      };
    }
