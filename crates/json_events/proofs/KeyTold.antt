-- A key that is told by its number is the next event.
use Rattle.std.specs.Prelude.{◌⊎◌}
use Rattle.std.specs.List.{prefix_len}
use Rattle.std.proofs.Common.{◌≡◌, ℕ, ◌+◌, List, [], ◌∷◌, ◌++◌, take, drop, None, false, inl, inr}
use Rattle.std.proofs.Common.{sym, subst, arith}
use Rattle.json_grammar.specs.Tree.{key}
use Rattle.json_grammar.specs.laws.Machine as machine
use Rattle.json_grammar.specs.laws.Machine.{first_key, next_key, is_blank}
use Rattle.json_grammar.specs.laws.Reads.{HasRead}
use Rattle.json_grammar.proofs.LawsForward.{Waits, in_first_key, in_next_key}
use Rattle.json_machine.specs.Machines.{state_of, levels_of, mode_of, IsSound}
use Rattle.json_machine.specs.NumberRuns.{TakesNumber}
use Rattle.json_machine.specs.declared.machine.Machine.{Machine}
use Rattle.json_machine.specs.declared.machine.Mode.TheVariants.{FirstKey, NextKey}
use Rattle.json_machine.proofs.PlainNumbers.{with_end}
use Rattle.json_machine.proofs.WholeKeys.{key_mode}
use Rattle.json_events.specs.Counts.{IsNextNumberKey}
use Rattle.json_events.specs.NumberKeys.{IsNumberText, TellsKey}
use Rattle.json_events.specs.PullViews.{PullView}
use Rattle.json_events.specs.Pulls.{Stands, StandsForSome, MachineHolds, view_of}
use Rattle.json_events.specs.Steps.{IsIdle}
use Rattle.json_events.specs.Unreads.{unread_of}
use Rattle.json_events.specs.declared.pull.Pull.TheInside.{Inside}
use Rattle.json_events.specs.declared.unread.Unread.{Unread}
use Rattle.json_events.proofs.CountTold.{item_read}
use Rattle.json_events.proofs.ReadingLemmas.{rest_behind}
use Rattle.json_events.proofs.Standing.{behind, told_given, for_some_told}

waits : (mode : machine.Mode) → (mode ≡ first_key) ⊎ (mode ≡ next_key) → Waits mode
waits mode (inl e) = subst Waits (sym e) in_first_key
waits mode (inr e) = subst Waits (sym e) in_next_key

-- blanks, and a key
pub key_told : (m n : Machine) (u v w : Unread) (blanks count number : ℕ) (rest : List ℕ)
    → (m.mode ≡ FirstKey) ⊎ (m.mode ≡ NextKey) → blanks ≡ prefix_len is_blank (unread_of u) → v.at ≡ u.at + blanks
    → unread_of v ≡ drop blanks (unread_of u) → rest ≡ drop blanks (unread_of u)
    → ((k : ℕ) → TakesNumber k (state_of m) rest (1 + count) (key k (k + (count + 2)) (take count (drop 1 rest)))
    (state_of n)) → IsNumberText (take count (drop 1 rest)) number → ((k i : ℕ) → IsSound k m → IsSound i n)
    → w.at ≡ v.at + (count + 2) → unread_of w ≡ drop (count + 2) (unread_of v) → TellsKey v.at number m u n w
key_told m n u v w blanks count number rest mode skip a b same takes is sound c d =
    let event = key v.at (v.at + (count + 2)) (take count (drop 1 rest)) in
    let there : TakesNumber (u.at + blanks) (state_of m) (drop blanks (unread_of u)) (1 + count) event (state_of n) =
    subst (λ (z : List ℕ). TakesNumber (u.at + blanks) (state_of m) z (1 + count) event (state_of n)) same
    (subst (λ (k : ℕ). TakesNumber k (state_of m) rest (1 + count) event (state_of n)) a (takes v.at)) in
    let end : u.at + blanks + (1 + count + 1) ≡ w.at = omega (arith, a, c) in
    record {
      end = v.at + (count + 2);
      text = take count (drop 1 rest);
      is = is;
      tells = λ stream told h. record {
        read = subst (λ z. HasRead stream z (state_of n) (told ++ event ∷ [])) end
            (item_read stream (unread_of u) u.at blanks (1 + count) (levels_of m.levels.items)
            (mode_of m.mode m.at m.token.items) (state_of n) (event ∷ []) told
            (waits (mode_of m.mode m.at m.token.items) (key_mode m.mode m.at m.token.items mode)) skip h.read h.rest
            (with_end there));
        rest = rest_behind v w (count + 2) stream (rest_behind u v blanks stream h.rest a b) c d;
        sound = sound u.at w.at h.sound;
      };
    }

pub key_given : (p : Inside) (v : PullView) (m : Machine) (u : Unread) (at number : ℕ) (stream : List ℕ) (given : ℕ)
    → IsIdle v → view_of p ≡ v → MachineHolds p.stage p.unread.at p.machine → TellsKey at number p.machine p.unread m u
    → Stands v stream given false
    → IsNextNumberKey stream given at number × Stands (view_of (behind p m u None p.stage)) stream (given + 1) false
key_given p v m u at number stream given idle s i t h =
    let a = told_given p m u None v (key at t.end t.text) stream given false idle s i (t.tells stream) h in (
      record {
        end = t.end;
        text = t.text;
        due = a.0.due false;
        next = a.0.of_each;
        some = t.is.some;
        few = t.is.few;
        digits = t.is.digits;
        value = t.is.value;
      },
      a.1,
    )

pub key_for_some : (p : Inside) (v : PullView) (m : Machine) (u : Unread) (at number : ℕ) → IsIdle v → view_of p ≡ v
    → TellsKey at number p.machine p.unread m u → StandsForSome p → StandsForSome (behind p m u None p.stage)
key_for_some p v m u at number idle s t h = for_some_told p m u None v (key at t.end t.text) idle s t.tells h
