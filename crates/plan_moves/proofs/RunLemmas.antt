-- The runs that a change of a plan takes off board and puts on.
use Rattle.std.proofs.Common.{◌≡◌, ℕ, ◌<◌, ◌∙◌, ap, List, [], ◌∷◌, Option, Some, None, length}
use Rattle.std.proofs.Common.{map, get_or, set}
use Rattle.std.specs.List.{swap}
use Rattle.std.proofs.lemmas.List.{set-set}
use Rattle.scenario_rows.specs.declared.change.Change.TheVariants.{Add, Take}
use Rattle.scenario_rows.specs.declared.change.RunChange.{RunChange}
use Rattle.scenario_rows.specs.RunChanges.{board_after}
use Rattle.plan_moves.proofs.BoardLemmas.{board-set, swapped}

abbrev pub taken : ℕ → ℕ → RunChange
taken i s = record { change = Take; i = i; s = s }

abbrev pub added : ℕ → ℕ → RunChange
added i s = record { change = Add; i = i; s = s }

pub board_after-move : (board : List (Option ℕ)) (starts : List ℕ) (i s from : ℕ) → board ≡ map Some starts
    → board_after (taken i from ∷ added i s ∷ []) board ≡ map Some (set starts i s)
board_after-move board starts i s from e =
    board-set board (set (set board i None) i (Some s)) starts i s e (set-set board i None (Some s))

pub board_after-swap : (board : List (Option ℕ)) (starts : List ℕ) (i j first second : ℕ) → i < length starts
    → j < length starts → board ≡ map Some starts → first ≡ get_or starts i 0 → second ≡ get_or starts j 0
    → board_after (taken i first ∷ added i second ∷ taken j second ∷ added j first ∷ []) board
    ≡ map Some (swap starts i j)
board_after-swap board starts i j first second h k e f s =
    board_after-move (set (set board i None) i (Some second)) (set starts i second) j first second
    (board_after-move board starts i second first e) ∙ ap (map Some) (swapped starts i j first second h k f s)

-- the same, of four runs that are these
pub exchanged_runs : (board : List (Option ℕ)) (starts : List ℕ) (i j first second : ℕ) (a b d e : RunChange)
    → a ≡ taken i first → b ≡ added i second → d ≡ taken j second → e ≡ added j first → i < length starts
    → j < length starts → board ≡ map Some starts → first ≡ get_or starts i 0 → second ≡ get_or starts j 0
    → board_after (a ∷ b ∷ d ∷ e ∷ []) board ≡ map Some (swap starts i j)
exchanged_runs board starts i j first second a b d e p q r s h k at f g =
    rw (p, q, r, s) (board_after-swap board starts i j first second h k at f g)
