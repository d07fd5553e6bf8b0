-- The load cells that are kept, after one workload more.
use Rattle.std.proofs.Common.{◌≡◌, ℕ, ◌+◌, ◌<◌, List, [], ◌∷◌, ◌++◌, cond, map, length, take, get_or, refl, sym, ◌∙◌}
use Rattle.std.proofs.Common.{ap, append_assoc, append-nil, bytes_eq}
use Rattle.std.specs.Prelude.{position}
use Rattle.instance_rows.specs.Cells.{runs_in, load_cell, kept, kept_of, all_kept}
use Rattle.instance_rows.specs.FileRows.{LoadRow, WorkloadRow}
use Rattle.instance_rows.proofs.Turns.{mapped_more}

kept-append : (periods : ℕ) (ds : List ℕ) (c : ℕ) (xs ys : List LoadRow)
    → kept periods ds c (xs ++ ys) ≡ kept periods ds c xs ++ kept periods ds c ys
kept-append periods ds c [] ys = refl
kept-append periods ds c (x ∷ xs) ys =
    ap (λ r. cond (runs_in periods ds x.start x.period) (load_cell c x ∷ []) [] ++ r) (kept-append periods ds c xs ys)
    ∙ sym (append_assoc (cond (runs_in periods ds x.start x.period) (load_cell c x ∷ []) []) (kept periods ds c xs)
    (kept periods ds c ys))

all_kept-append : (periods : ℕ) (ds : List ℕ) (names : List (List ℕ)) (xs ys : List WorkloadRow)
    → all_kept periods ds names (xs ++ ys) ≡ all_kept periods ds names xs ++ all_kept periods ds names ys
all_kept-append periods ds names [] ys = refl
all_kept-append periods ds names (x ∷ xs) ys =
    ap (λ r. kept_of periods ds (position (bytes_eq x.resource) names) x.loads ++ r)
    (all_kept-append periods ds names xs ys)
    ∙ sym (append_assoc (kept_of periods ds (position (bytes_eq x.resource) names) x.loads)
    (all_kept periods ds names xs) (all_kept periods ds names ys))

pub kept_more : {X : Type 0} (periods : ℕ) (ds : List ℕ) (c : ℕ) (v : X → LoadRow) (xs : List X) (i : ℕ) (x : X)
    → i < length xs → x ≡ get_or xs i x
    → kept periods ds c (map v (take (i + 1) xs)) ≡ kept periods ds c (map v (take i xs))
    ++ cond (runs_in periods ds (v x).start (v x).period) (load_cell c (v x) ∷ []) []
kept_more periods ds c v xs i x h e =
    ap (kept periods ds c) (mapped_more v xs i x h e) ∙ kept-append periods ds c (map v (take i xs)) (v x ∷ [])
    ∙ ap (λ r. kept periods ds c (map v (take i xs)) ++ r)
    (append-nil (cond (runs_in periods ds (v x).start (v x).period) (load_cell c (v x) ∷ []) []))

pub all_kept_more : {X : Type 0} (periods : ℕ) (ds : List ℕ) (names : List (List ℕ)) (v : X → WorkloadRow) (xs : List X)
    (i : ℕ) (x : X) → i < length xs → x ≡ get_or xs i x
    → all_kept periods ds names (map v (take (i + 1) xs)) ≡ all_kept periods ds names (map v (take i xs))
    ++ kept_of periods ds (position (bytes_eq (v x).resource) names) (v x).loads
all_kept_more periods ds names v xs i x h e =
    ap (all_kept periods ds names) (mapped_more v xs i x h e)
    ∙ all_kept-append periods ds names (map v (take i xs)) (v x ∷ [])
    ∙ ap (λ r. all_kept periods ds names (map v (take i xs)) ++ r)
    (append-nil (kept_of periods ds (position (bytes_eq (v x).resource) names) (v x).loads))
