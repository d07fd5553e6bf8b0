-- Starts of which one is another, and what is kept of them.
use Rattle.std.proofs.Common.{◌≡◌, ◌≢◌, ℕ, ◌<◌, refl, sym, ◌∙◌, ap, subst, arith, List, Option, Some, length, map}
use Rattle.std.proofs.Common.{get_or, set, Bool, true, false, IsTrue, eqb}
use Rattle.std.specs.Option.{IsSome}
use Rattle.std.proofs.lemmas.Bool.Decides.{nat_tests}
use Rattle.std.proofs.lemmas.List.{length-set, map-set, get_or-set_same, get_or-set_other}
use Rattle.std.proofs.lemmas.List.Edits.{swap_is, length-swap}
use Rattle.std.specs.List.{swap}
use Rattle.instance_model.specs.Tables.{Tables, is_allowed}
use Rattle.instance_model.specs.Plans.{AreAllowedStarts, start_of}
use Rattle.instance_model.proofs.BoardLemmas.{start_of-starts}
use Rattle.scenario_rows.specs.RiskStates.{RiskState, IsOver as AreRowsOver}
use Rattle.resource_bands.specs.BoardLoads.{BoardLoads, IsOver as AreLoadsOver}
use Rattle.season_exclusion.specs.KeptClashes.{KeptClashes, IsOver as AreClashesOver}
use Rattle.plan_moves.specs.Boards.{Board, AreViolationsOf, AreRowsOf}

pub AreAllowedStarts-set : (inst : Tables) (starts : List ℕ) (i s : ℕ) → AreAllowedStarts inst starts
    → IsTrue (is_allowed inst i s) → AreAllowedStarts inst (set starts i s)
AreAllowedStarts-set inst starts i s a h = record {
  each = length-set starts i s ∙ a.each;
  allowed = λ j l. at j (eqb j i) refl (omega (arith, l, length-set starts i s));
}
  where
    at : (j : ℕ) (b : Bool) → eqb j i ≡ b → j < length starts → IsTrue (is_allowed inst j (get_or (set starts i s) j 0))
    at j true e low =
        let same : j ≡ i = grind (arith, nat_tests) in
        let w : get_or (set starts i s) i 0 ≡ s = get_or-set_same starts i s 0 (rw same at low) in
        rw same (subst (λ (x : ℕ). IsTrue (is_allowed inst i x)) (sym w) h)
    at j false e low =
        let other : j ≢ i = grind (arith, nat_tests) in
        let w : get_or (set starts i s) j 0 ≡ get_or starts j 0 = get_or-set_other starts i j s 0 other in
        subst (λ (x : ℕ). IsTrue (is_allowed inst j x)) (sym w) (a.allowed j low)

-- an intervention with this start stands on a board of the starts
pub start_on_board : (board : List (Option ℕ)) (starts : List ℕ) (i : ℕ) → board ≡ map Some starts → i < length starts
    → start_of board i ≡ Some (get_or starts i 0)
start_on_board board starts i e l = ap (λ (b : List (Option ℕ)). start_of b i) e ∙ start_of-starts starts i l

pub is_on_board : (board : List (Option ℕ)) (starts : List ℕ) (i : ℕ) → board ≡ map Some starts → i < length starts
    → IsSome (start_of board i)
is_on_board board starts i e l = subst IsSome (sym (start_on_board board starts i e l)) refl

-- the board after one start has changed
pub board-set : (board next : List (Option ℕ)) (starts : List ℕ) (i s : ℕ) → board ≡ map Some starts
    → next ≡ set board i (Some s) → next ≡ map Some (set starts i s)
board-set board next starts i s e n =
    n ∙ ap (λ (b : List (Option ℕ)). set b i (Some s)) e ∙ sym (map-set Some starts i s)

-- what is kept of the starts after one of them has changed, and all that is kept of them with it
pub AreViolationsOf-set : (inst : Tables) (starts : List ℕ) (loads next_loads : BoardLoads)
    (clashes next_clashes : KeptClashes) (i s : ℕ) → AreViolationsOf inst starts loads clashes
    → IsTrue (is_allowed inst i s) → AreLoadsOver inst next_loads → next_loads.board ≡ set loads.board i (Some s)
    → AreClashesOver inst next_clashes → next_clashes.starts ≡ set starts i s
    → AreViolationsOf inst (set starts i s) next_loads next_clashes
AreViolationsOf-set inst starts loads next_loads clashes next_clashes i s k h lo lb co cs = record {
  allowed = AreAllowedStarts-set inst starts i s k.allowed h;
  loads_over = lo;
  loads_board = board-set loads.board next_loads.board starts i s k.loads_board lb;
  clashes_over = co;
  clashes_starts = cs;
}

pub AreRowsOf-set : (board : Board) (sums next : RiskState) (i s : ℕ) → AreRowsOf board sums
    → IsTrue (is_allowed board.instance i s) → AreRowsOver board.instance next → next.board ≡ set sums.board i (Some s)
    → AreRowsOf (record board { starts = set board.starts i s }) next
AreRowsOf-set board sums next i s k h over is = record {
  allowed = AreAllowedStarts-set board.instance board.starts i s k.allowed h;
  over = over;
  board_is = board-set sums.board next.board board.starts i s k.board_is is;
}

-- ---- one step back

-- the start to which a change of one start goes back
pub allowed_before-move : (inst : Tables) (starts : List ℕ) (i from : ℕ) → i < length inst.names
    → AreAllowedStarts inst (set starts i from) → IsTrue (is_allowed inst i from)
allowed_before-move inst starts i from l a =
    let within : i < length starts = omega (arith, a.each, length-set starts i from) in
    subst (λ (x : ℕ). IsTrue (is_allowed inst i x)) (get_or-set_same starts i from 0 within)
    (a.allowed i (omega (arith, a.each)))

-- what an exchange makes of the list, start by start
pub swapped : (starts : List ℕ) (i j first second : ℕ) → i < length starts → j < length starts
    → first ≡ get_or starts i 0 → second ≡ get_or starts j 0 → set (set starts i second) j first ≡ swap starts i j
swapped starts i j first second h k e f = rw (e, f) (swap_is starts i j 0 h k)

length-swapped : (starts : List ℕ) (i j : ℕ) → length (swap starts i j) ≡ length starts
length-swapped starts i j = length-swap starts i j

-- after an exchange of i and j, i has the start that j had
pub get_or-swap_first : (starts : List ℕ) (i j : ℕ) → i < length starts → j < length starts
    → get_or (swap starts i j) i 0 ≡ get_or starts j 0
get_or-swap_first starts i j h k =
    ap (λ (l : List ℕ). get_or l i 0) (sym (swap_is starts i j 0 h k)) ∙ at (eqb i j) refl
  where
    a : ℕ
    a = get_or starts i 0

    b : ℕ
    b = get_or starts j 0

    at : (t : Bool) → eqb i j ≡ t → get_or (set (set starts i b) j a) i 0 ≡ b
    at true e =
        let same : i ≡ j = grind (arith, nat_tests) in
        let long : j < length (set starts i b) = omega (arith, length-set starts i b, k) in
        subst (λ (m : ℕ). get_or (set (set starts i b) j a) m 0 ≡ b) (sym same)
        (get_or-set_same (set starts i b) j a 0 long ∙ ap (λ (m : ℕ). get_or starts m 0) same)
    at false e =
        let other : i ≢ j = grind (arith, nat_tests) in
        get_or-set_other (set starts i b) j i a 0 other ∙ get_or-set_same starts i b 0 h

-- and j the one that i had
pub get_or-swap_second : (starts : List ℕ) (i j : ℕ) → i < length starts → j < length starts
    → get_or (swap starts i j) j 0 ≡ get_or starts i 0
get_or-swap_second starts i j h k =
    ap (λ (l : List ℕ). get_or l j 0) (sym (swap_is starts i j 0 h k))
    ∙ get_or-set_same (set starts i (get_or starts j 0)) j (get_or starts i 0) 0
    (omega (arith, length-set starts i (get_or starts j 0), k))

-- the starts to which an exchange goes back
pub allowed_before-first : (inst : Tables) (starts : List ℕ) (i j : ℕ) → i < length inst.names → j < length inst.names
    → AreAllowedStarts inst (swap starts i j) → IsTrue (is_allowed inst i (get_or starts j 0))
allowed_before-first inst starts i j l m a =
    let long : length starts ≡ length inst.names = omega (arith, a.each, length-swapped starts i j) in
    subst (λ (x : ℕ). IsTrue (is_allowed inst i x)) (get_or-swap_first starts i j (omega (arith, long, l))
    (omega (arith, long, m))) (a.allowed i (omega (arith, a.each, l)))

pub allowed_before-second : (inst : Tables) (starts : List ℕ) (i j : ℕ) → i < length inst.names → j < length inst.names
    → AreAllowedStarts inst (swap starts i j) → IsTrue (is_allowed inst j (get_or starts i 0))
allowed_before-second inst starts i j l m a =
    let long : length starts ≡ length inst.names = omega (arith, a.each, length-swapped starts i j) in
    subst (λ (x : ℕ). IsTrue (is_allowed inst j x)) (get_or-swap_second starts i j (omega (arith, long, l))
    (omega (arith, long, m))) (a.allowed j (omega (arith, a.each, m)))

-- the starts that an exchange makes, where both are allowed
pub AreAllowedStarts-swap : (inst : Tables) (starts : List ℕ) (i j : ℕ) → AreAllowedStarts inst starts
    → i < length inst.names → j < length inst.names → IsTrue (is_allowed inst i (get_or starts j 0))
    → IsTrue (is_allowed inst j (get_or starts i 0)) → AreAllowedStarts inst (swap starts i j)
AreAllowedStarts-swap inst starts i j a l m h k =
    let b = get_or starts j 0 in
    subst (AreAllowedStarts inst) (swap_is starts i j 0 (omega (arith, a.each, l)) (omega (arith, a.each, m)))
    (AreAllowedStarts-set inst (set starts i b) j (get_or starts i 0) (AreAllowedStarts-set inst starts i b a h) k)
