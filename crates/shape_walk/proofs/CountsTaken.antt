-- Many numbers that are exactly counts, at a spot of counts, as events.
use Rattle.std.specs.Prelude.{ℤ}
use Rattle.std.proofs.Common.{◌≡◌, ℕ, suc, ◌-◌, ◌≤◌, ◌==◌, List, [], ◌∷◌, ◌++◌, length, Bool, true, false}
use Rattle.std.proofs.Common.{None, refl, sym, ◌∙◌, ap, subst, cond, nat_lt, arith, append_assoc}
use Rattle.std.proofs.Common.{append-nil}
use Rattle.std.proofs.lemmas.Bool.Decides.{nat_tests}
use Rattle.json_grammar.specs.Tree.{Event}
use Rattle.instance_model.specs.declared.limits.Limits.{Limits}
use Rattle.instance_shape.specs.declared.spot.Spot.{Spot}
use Rattle.instance_shape.specs.declared.spot.Spot.TheVariants as spots
use Rattle.instance_shape.specs.declared.spot.Kind.TheVariants as kind
use Rattle.instance_shape.specs.Shape.{kind_of, element}
use Rattle.instance_shape.specs.ShapeFaults.{is_risk, is_workload}
use Rattle.shape_walk.specs.Awaits.{AwaitsCount, room_at, count_room}
use Rattle.shape_walk.specs.CountEvents.{HasCount, HaveCounts, StandAt, AreReadAs}
use Rattle.shape_walk.specs.Flaws.{first_flaw}
use Rattle.shape_walk.specs.Kept.{spot_after}
use Rattle.shape_walk.specs.Machine.{Frame, outside, in_object, in_list, State, next_spot, one_more, behind, more_if}
use Rattle.shape_walk.specs.Machine.{number_past, step, state_along, start}
use Rattle.shape_walk.specs.Reads.{read_of}
use Rattle.shape_walk.specs.Runs.{many_more, behind_all, many_if, behind_numbers}
use Rattle.shape_walk.specs.Standing.{Walk, StandsAfter}
use Rattle.shape_walk.specs.declared.taken.Read.TheVariants.{Count}
use Rattle.shape_walk.proofs.CountTaken.{count_stands, count_is_read}
use Rattle.shape_walk.proofs.OneMore.{state_more}

-- ---- the spot stays

word_is_name : (b : Bool) → kind_of (cond b spots.Word spots.Beyond) ≡ kind.Count → ⊥
word_is_name true e = cc
word_is_name false e = cc

same_element : (q : Spot) (n m : ℕ) → kind_of (element q n) ≡ kind.Count → element q n ≡ element q m
same_element spots.Exclusion n m k = absurd (word_is_name (nat_lt n 3) k)
same_element _ n m k = refl

-- where a count is awaited, the next value stands at the same spot
still_next : (f : Frame) → kind_of (next_spot f) ≡ kind.Count → next_spot f ≡ next_spot (behind f)
still_next outside k = refl
still_next (in_object s ks n) k = refl
still_next (in_list s n) k = same_element s n (one_more n) k

all_next : (f : Frame) (count : ℕ) → kind_of (next_spot f) ≡ kind.Count → next_spot f ≡ next_spot (behind_all count f)
all_next outside count k = refl
all_next (in_object s ks n) count k = refl
all_next (in_list s n) count k = same_element s n (many_more count n) k

-- ---- the state

none_more : (n : ℕ) → many_more 0 n ≡ n
none_more n = grind (arith, nat_tests)

one_and_more : (count n : ℕ) → many_more (suc count) n ≡ many_more count (one_more n)
one_and_more count n = grind (arith, nat_tests)

none_behind : (f : Frame) → behind_all 0 f ≡ f
none_behind outside = refl
none_behind (in_object s ks n) = refl
none_behind (in_list s n) = ap (in_list s) (none_more n)

one_and_behind : (count : ℕ) (f : Frame) → behind_all (suc count) f ≡ behind_all count (behind f)
one_and_behind count outside = refl
one_and_behind count (in_object s ks n) = refl
one_and_behind count (in_list s n) = ap (in_list s) (one_and_more count n)

none_if : (b : Bool) (n : ℕ) → many_if b 0 n ≡ n
none_if true n = omega arith
none_if false n = refl

one_and_if : (b : Bool) (count n : ℕ) → many_if b (suc count) n ≡ many_if b count (more_if b n)
one_and_if true count n = omega arith
one_and_if false count n = refl

pub none_stays : (spot : Spot) (s : State) → behind_numbers spot 0 s ≡ s
none_stays spot s = simp (none_behind, none_if)

-- a number's event takes the state on
one_and_numbers : (spot : Spot) (count : ℕ) (e : Event) (c : ℤ) (s : State) → HasCount e c → spot ≡ next_spot s.top
    → behind_numbers spot (suc count) s ≡ behind_numbers spot count (step e s)
one_and_numbers spot count (Event.number at token) c s n e = rw (← e) (simp (one_and_behind, one_and_if))
one_and_numbers spot count _ c s n e = absurd n

top_more : (e : Event) (c : ℤ) (s : State) → HasCount e c → (step e s).top ≡ behind s.top
top_more (Event.number at token) c s n = refl
top_more _ c s n = absurd n

-- ---- the limits

not_yet : (n limit : ℕ) → 1 ≤ limit - n → (n == limit) ≡ false
not_yet n limit h = grind (arith, nat_tests)

-- where there is room, no limit is passed
none_past : (limits : Limits) (s : Spot) (at r w : ℕ) → 1 ≤ room_at limits s r w → number_past limits s at r w ≡ []
none_past limits spots.RiskNumber at r w h = rw (not_yet r limits.risk_cells h) refl
none_past limits spots.WorkloadNumber at r w h = rw (not_yet w limits.workload_entries h) refl
none_past limits _ at r w h = refl

-- and one less behind a number
less_room : (limits : Limits) (s : Spot) (r w count : ℕ) → suc count ≤ room_at limits s r w
    → count ≤ room_at limits s (more_if (is_risk s) r) (more_if (is_workload s) w)
less_room limits spots.RiskNumber r w count h = omega arith
less_room limits spots.WorkloadNumber r w count h = omega arith
less_room limits _ r w count h = omega arith

-- ---- the walk

-- the walk behind one number
walk_more : Walk → Event → Walk
walk_more old e = record { limits = old.limits; state = step e old.state; fault = None }

one_stands : (limits : Limits) (old : Walk) (spot : Spot) (e : Event) (c : ℤ) (es : List Event) → AwaitsCount old spot
    → HasCount e c → 1 ≤ count_room old spot → StandsAfter limits old es
    → StandsAfter limits (walk_more old e) (es ++ e ∷ [])
unfolding walk_more
one_stands limits old spot (Event.number at token) c es a n room h =
    count_stands limits old (walk_more old (Event.number at token)) es at spot token c None a n refl refl
    (ap first_flaw (sym (none_past old.limits spot at old.state.risks old.state.workloads room))) (λ _. refl) h
one_stands limits old spot _ c es a n room h = absurd n

one_awaits : (old : Walk) (spot : Spot) (e : Event) (c : ℤ) → AwaitsCount old spot → HasCount e c
    → AwaitsCount (walk_more old e) spot
unfolding walk_more
one_awaits old spot e c a n =
    let here : kind_of (next_spot old.state.top) ≡ kind.Count = ap kind_of (sym a.next) ∙ a.counts in
    record {
      no_fault = refl;
      next = a.next ∙ still_next old.state.top here ∙ ap next_spot (sym (top_more e c old.state n));
      counts = a.counts;
    }

room_more : (old : Walk) (spot : Spot) (e : Event) (c : ℤ) (count : ℕ) → AwaitsCount old spot → HasCount e c
    → suc count ≤ count_room old spot → count ≤ count_room (walk_more old e) spot
unfolding walk_more
room_more old spot (Event.number at token) c count a n room =
    subst (λ s. count ≤ room_at old.limits spot (more_if (is_risk s) old.state.risks)
    (more_if (is_workload s) old.state.workloads)) a.next
    (less_room old.limits spot old.state.risks old.state.workloads count room)
room_more old spot _ c count a n room = absurd n

pub counts_stand : (limits : Limits) (old new : Walk) (spot : Spot) (numbers : List Event) (counts : List ℤ)
    (es : List Event) → AwaitsCount old spot → HaveCounts numbers counts → length counts ≤ count_room old spot
    → new.limits ≡ old.limits → new.fault ≡ None → new.state ≡ behind_numbers spot (length counts) old.state
    → StandsAfter limits old es → StandsAfter limits new (es ++ numbers)
unfolding walk_more
counts_stand limits old new spot [] [] es a n room l f s h =
    subst (StandsAfter limits new) (sym (append-nil es)) (record {
      under = l ∙ h.under;
      first = f ∙ sym a.no_fault ∙ h.first;
      state = λ _. s ∙ none_stays spot old.state ∙ h.state a.no_fault;
    })
counts_stand limits old new spot [] (c ∷ cs) es a n room l f s h = absurd n
counts_stand limits old new spot (e ∷ ns) [] es a n room l f s h = absurd n
counts_stand limits old new spot (e ∷ ns) (c ∷ cs) es a n room l f s h =
    subst (StandsAfter limits new) (append_assoc es (e ∷ []) ns)
    (counts_stand limits (walk_more old e) new spot ns cs (es ++ e ∷ []) (one_awaits old spot e c a n.0) n.1
    (room_more old spot e c (length cs) a n.0 room) l f
    (s ∙ one_and_numbers spot (length cs) e c old.state n.0 a.next)
    (one_stands limits old spot e c es a n.0 (omega arith) h))

-- what is awaited behind many numbers
pub counts_awaited : (old new : Walk) (spot : Spot) (count : ℕ) → AwaitsCount old spot → new.fault ≡ None
    → new.state.top ≡ behind_all count old.state.top → AwaitsCount new spot
counts_awaited old new spot count a f t =
    let here : kind_of (next_spot old.state.top) ≡ kind.Count = ap kind_of (sym a.next) ∙ a.counts in
    record {
      no_fault = f;
      next = a.next ∙ all_next old.state.top count here ∙ ap next_spot (sym t);
      counts = a.counts;
    }

-- ---- where the numbers stand, and how they are read

stands_next : (e : Event) (c : ℤ) (es : List Event) → HasCount e c
    → next_spot (state_along es start).top ≡ spot_after es e
stands_next (Event.number at token) c es n = refl
stands_next _ c es n = absurd n

spots_along : (spot : Spot) (numbers : List Event) (counts : List ℤ) (es : List Event) → kind_of spot ≡ kind.Count
    → HaveCounts numbers counts → spot ≡ next_spot (state_along es start).top → StandAt spot es numbers
spots_along spot [] counts es k n s = tt
spots_along spot (e ∷ ns) [] es k n s = absurd n
spots_along spot (e ∷ ns) (c ∷ cs) es k n s =
    let before = state_along es start in
    let here : kind_of (next_spot before.top) ≡ kind.Count = ap kind_of (sym s) ∙ k in
    let after : spot ≡ next_spot (state_along (es ++ e ∷ []) start).top =
    s ∙ still_next before.top here ∙ ap next_spot (sym (top_more e c before n.0))
    ∙ ap (λ (q : State). next_spot q.top) (sym (state_more es e start)) in
    (s ∙ stands_next e c es n.0, spots_along spot ns cs (es ++ e ∷ []) k n.1 after)

pub counts_at : (limits : Limits) (walk : Walk) (spot : Spot) (numbers : List Event) (counts : List ℤ)
    (es : List Event) → AwaitsCount walk spot → HaveCounts numbers counts → StandsAfter limits walk es
    → StandAt spot es numbers
counts_at limits walk spot numbers counts es a n h =
    spots_along spot numbers counts es a.counts n
    (a.next ∙ ap (λ (q : State). next_spot q.top) (h.state a.no_fault))

read_as : (spot : Spot) (e : Event) (c : ℤ) → kind_of spot ≡ kind.Count → HasCount e c → read_of spot e ≡ Count c false
read_as spot (Event.number at token) c k n = sym (count_is_read at spot token c k n)
read_as spot _ c k n = absurd n

pub counts_are_read : (spot : Spot) (numbers : List Event) (counts : List ℤ) → kind_of spot ≡ kind.Count
    → HaveCounts numbers counts → AreReadAs spot numbers counts
counts_are_read spot [] [] k n = tt
counts_are_read spot [] (c ∷ cs) k n = absurd n
counts_are_read spot (e ∷ ns) [] k n = absurd n
counts_are_read spot (e ∷ ns) (c ∷ cs) k n = (read_as spot e c k n.0, counts_are_read spot ns cs k n.1)
