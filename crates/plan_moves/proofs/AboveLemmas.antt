-- Starts that are changed in a plan, on board of the loads, and loads that make its violation.
use Rattle.std.proofs.Common.{◌≡◌, ℕ, ◌*◌, ◌<◌, ◌∙◌, refl, ap, subst, arith, ℤ, pos, ◌+ℤ◌, ◌<ℤ◌, List, Option, Some}
use Rattle.std.proofs.Common.{length, map, get_or, set}
use Rattle.std.specs.List.{swap}
use Rattle.std.proofs.lemmas.List.{set-set}
use Rattle.fixed_num.proofs.SignedLemmas.{signed_arith}
use Rattle.instance_model.specs.Tables.{Tables}
use Rattle.instance_model.specs.Keys.{band_gaps, clash_count, violation_of}
use Rattle.resource_bands.specs.declared.above.StartChange.{StartChange}
use Rattle.resource_bands.specs.StartChanges.{board_after}
use Rattle.plan_moves.proofs.BoardLemmas.{board-set, swapped}

abbrev changed : ℕ → ℕ → ℕ → StartChange
changed i from to = record { i = i; from = from; to = to }

pub moved_board : (board : List (Option ℕ)) (starts : List ℕ) (i s from : ℕ) (one : StartChange)
    → one ≡ changed i from s → board ≡ map Some starts → board_after one one board ≡ map Some (set starts i s)
moved_board board starts i s from one is e =
    rw is (board-set board (set (set board i (Some s)) i (Some s)) starts i s e (set-set board i (Some s) (Some s)))

pub exchanged_board : (board : List (Option ℕ)) (starts : List ℕ) (i j first second : ℕ) (one other : StartChange)
    → one ≡ changed i first second → other ≡ changed j second first → i < length starts → j < length starts
    → board ≡ map Some starts → first ≡ get_or starts i 0 → second ≡ get_or starts j 0
    → board_after one other board ≡ map Some (swap starts i j)
exchanged_board board starts i j first second one other is other_is h k e f s =
    let next = set board i (Some second) in
    rw (is, other_is) (board-set next (set next j (Some first)) (set starts i second) j first
    (board-set board next starts i second e refl) refl ∙ ap (map Some) (swapped starts i j first second h k f s))

-- loads that are outside their limits by more than a limit make a violation above it
pub violation_above : (inst : Tables) (plan next : List (Option ℕ)) (limit : ℤ) → limit <ℤ band_gaps inst plan
    → plan ≡ next → limit <ℤ violation_of inst next
unfolding violation_of
violation_above inst plan next limit h e =
    let here = subst (λ (p : List (Option ℕ)). limit <ℤ band_gaps inst p) e h in
    above limit (band_gaps inst next) (1_000_000_000_000 * clash_count inst next) here
  where
    above : (l g : ℤ) (n : ℕ) → l <ℤ g → l <ℤ (g +ℤ pos n)
    above l g n h = omega (arith, signed_arith, h)
