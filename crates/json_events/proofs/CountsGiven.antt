-- Numbers that are told by their counts are the next events of a pull.
use Rattle.std.specs.Prelude.{ℤ}
use Rattle.std.proofs.Common.{◌≡◌, ℕ, suc, ◌+◌, List, [], ◌∷◌, ◌++◌, length, None, false, refl, sym, ◌∙◌}
use Rattle.std.proofs.Common.{ap, subst, append-nil}
use Rattle.json_grammar.specs.Tree.{Event}
use Rattle.std.specs.Option.{option_map, option_to_list}
use Rattle.json_grammar.specs.Events.{event_view}
use Rattle.json_events.specs.Readings.{HasTold}
use Rattle.json_events.specs.Counts.{AreNextCounts}
use Rattle.json_events.specs.PullViews.{PullView}
use Rattle.json_events.specs.Pulls.{Stands, StandsForSome, MachineHolds, view_of}
use Rattle.json_events.specs.CountedNumbers.{AreCounted, TellsCounts}
use Rattle.json_events.specs.Steps.{IsIdle}
use Rattle.json_machine.specs.declared.machine.Machine.{Machine}
use Rattle.json_events.specs.declared.pull.Pull.TheInside.{Inside}
use Rattle.json_events.specs.declared.unread.Unread.{Unread}
use Rattle.json_events.proofs.Standing.{AreNext, behind, all_given, for_some_all}
use Rattle.json_events.proofs.CountTold.{next_count}

-- as long as it holds no event, the events that are told are the only ones
only : (p : Inside) (v : PullView) (m : Machine) (u : Unread) (es : List Event) → IsIdle v → view_of p ≡ v
    → ((stream : List ℕ) (told : List Event) → HasTold p.machine p.unread stream told → HasTold m u stream (told ++ es))
    → (stream : List ℕ) (told : List Event) → HasTold p.machine p.unread stream told
    → HasTold m u stream (told ++ (es ++ option_to_list (option_map event_view p.held)))
only p v m u es idle s tells stream told h =
    let none : option_map event_view p.held ≡ None = ap (λ (z : PullView). z.held) s ∙ idle.none_held in
    subst (λ z. HasTold m u stream (told ++ (es ++ option_to_list z))) (sym none)
    (subst (λ z. HasTold m u stream (told ++ z)) (sym (append-nil es)) (tells stream told h))

same_length : (es : List Event) (cs : List ℤ) → AreCounted es cs → length es ≡ length cs
same_length [] [] h = refl
same_length (e ∷ es) (c ∷ cs) h = ap suc (same_length es cs h.1)
same_length [] (c ∷ cs) h = absurd h
same_length (e ∷ es) [] h = absurd h

next_counts : (stream : List ℕ) (given : ℕ) (es : List Event) (cs : List ℤ) → AreNext stream given es
    → AreCounted es cs → AreNextCounts stream given cs
next_counts stream given [] [] next h = tt
next_counts stream given (e ∷ es) (c ∷ cs) next h =
    ((h.0.at, next_count stream given e c next.0 h.0), next_counts stream (given + 1) es cs next.1 h.1)
next_counts stream given [] (c ∷ cs) next h = absurd h
next_counts stream given (e ∷ es) [] next h = absurd h

pub counts_given : (p : Inside) (v : PullView) (m : Machine) (u : Unread) (cs : List ℤ) (stream : List ℕ) (given : ℕ)
    → IsIdle v → view_of p ≡ v → MachineHolds p.stage p.unread.at p.machine
    → TellsCounts cs p.machine p.unread m u → Stands v stream given false
    → AreNextCounts stream given cs × Stands (view_of (behind p m u p.held p.stage)) stream (given + length cs) false
counts_given p v m u cs stream given idle s i t h =
    let a = all_given p m u p.held v t.events stream given false idle s i (only p v m u t.events idle s t.tells stream)
    h in (
      next_counts stream given t.events cs a.0 t.counted,
      subst (λ n. Stands (view_of (behind p m u p.held p.stage)) stream (given + n) false)
          (same_length t.events cs t.counted) a.1,
    )

pub counts_for_some : (p : Inside) (v : PullView) (m : Machine) (u : Unread) (cs : List ℤ) → IsIdle v → view_of p ≡ v
    → TellsCounts cs p.machine p.unread m u → StandsForSome p → StandsForSome (behind p m u p.held p.stage)
counts_for_some p v m u cs idle s t h =
    for_some_all p m u p.held v t.events idle s (only p v m u t.events idle s t.tells) h
