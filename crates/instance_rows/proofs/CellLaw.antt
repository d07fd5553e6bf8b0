-- The load cells that are kept, in order, are those of the table.
use Rattle.std.proofs.Common.{◌≡◌, ◌≢◌, ℕ, zero, suc, ◌+◌, ◌<◌, ◌≤◌, ◌==◌, ◌&&◌, inl, inr, Bool, true, false, cond}
use Rattle.std.proofs.Common.{List, [], ◌∷◌, length, get_or, Option, Some, None, refl, sym, ◌∙◌, ap, arith, bytes_eq}
use Rattle.std.specs.Prelude.{find, position, AllPairs, IsPermutation, Contains}
use Rattle.std.specs.List.Sorted.{IsSortedBy}
use Rattle.std.proofs.lemmas.Bool.Decides.{nat_tests}
use Rattle.std.proofs.lemmas.List.Sorted.{IsPermutation-sym, Contains-permutation}
use Rattle.std.proofs.lemmas.List.Quantifiers.{position-Some}
use Rattle.std.proofs.lemmas.Slice.Eq.{bytes_eq-Decides}
use Rattle.instance_model.specs.declared.parts.LoadCell.{LoadCell}
use Rattle.instance_model.specs.Fitting.{CellBefore}
use Rattle.instance_model.specs.Tables.{is_cell_of}
use Rattle.instance_rows.specs.Cells.{runs_in, load_cell, kept, kept_of, all_kept, precedes}
use Rattle.instance_rows.specs.FileRows.{LoadRow, WorkloadRow}
use Rattle.instance_rows.specs.RowTables.{each_run, is_load_at, cells_at}
use Rattle.instance_rows.specs.Sound.{AreLoadsApart, AreWorkloadsApart}
use Rattle.instance_rows.proofs.Ascending.{Among, same_members}
use Rattle.instance_rows.proofs.CellOrder.{weight, weight-nil, weight-cons, weight-append, weight_moved, cell_asym}
use Rattle.instance_rows.proofs.CellOrder.{rises_sorted}
use Rattle.instance_rows.proofs.CellMembers.{load_is_at, none_passes, table_member, member_table, table_rises}
use Rattle.instance_rows.proofs.CellMembers.{kept_is_cell, cell_is_kept}

-- ---- each key once

both : (a b : Bool) → a && b ≡ true → (a ≡ true) × (b ≡ true)
both true b h = (refl, h)
both false b h = cc

equal_so : (a b : ℕ) → (a == b) ≡ true → a ≡ b
equal_so a b h = grind (arith, nat_tests)

-- what one workload adds to the weight of a key
abbrev one : ℕ → ℕ → ℕ → ℕ → List ℕ → ℕ → LoadRow → ℕ
one s t c periods ds d l = weight s t c (cond (runs_in periods ds l.start l.period) (load_cell d l ∷ []) [])

one_most : (s t c periods : ℕ) (ds : List ℕ) (d : ℕ) (l : LoadRow) → one s t c periods ds d l ≤ 1
one_most s t c periods ds d l = by (runs_in periods ds l.start l.period)
  where
    most : (b : Bool) → cond {A = ℕ} b 1 0 ≤ 1
    most true = omega arith
    most false = omega arith

    by : (b : Bool) → weight s t c (cond b (load_cell d l ∷ []) []) ≤ 1
    by true =
        omega (arith, weight-cons s t c (load_cell d l) [], weight-nil s t c, most (is_cell_of s t c (load_cell d l)))
    by false = omega (arith, weight-nil s t c)

one_none : (s t c periods : ℕ) (ds : List ℕ) (d : ℕ) (l : LoadRow) → is_cell_of s t c (load_cell d l) ≡ false
    → one s t c periods ds d l ≡ 0
one_none s t c periods ds d l h = by (runs_in periods ds l.start l.period)
  where
    nothing : cond {A = ℕ} (is_cell_of s t c (load_cell d l)) 1 0 ≡ 0
    nothing = ap (λ (b : Bool). cond {A = ℕ} b 1 0) h

    by : (b : Bool) → weight s t c (cond b (load_cell d l ∷ []) []) ≡ 0
    by true = omega (arith, weight-cons s t c (load_cell d l) [], weight-nil s t c, nothing)
    by false = weight-nil s t c

kept_weight : (s t c periods : ℕ) (ds : List ℕ) (d : ℕ) (l : LoadRow) (ls : List LoadRow)
    → weight s t c (kept periods ds d (l ∷ ls)) ≡ one s t c periods ds d l + weight s t c (kept periods ds d ls)
kept_weight s t c periods ds d l ls =
    weight-append s t c (cond (runs_in periods ds l.start l.period) (load_cell d l ∷ []) []) (kept periods ds d ls)

-- a cell of a key is that of a workload in its period at its start, of its resource
cell_of_key : (s t c d : ℕ) (l : LoadRow) → is_cell_of s t c (load_cell d l) ≡ true
    → (is_load_at t s l ≡ true) × (d ≡ c)
cell_of_key s t c d l h =
    let q = both ((l.start == s) && (l.period == t)) (d == c) h in
    let r = both (l.start == s) (l.period == t) q.0 in
    (ap (λ b. b && (l.start == s)) r.1 ∙ r.0, equal_so d c q.1)

other_key : (s t c d : ℕ) (l : LoadRow) (b : Bool) → is_cell_of s t c (load_cell d l) ≡ b
    → ((is_load_at t s l ≡ true) → d ≡ c → ⊥) → is_cell_of s t c (load_cell d l) ≡ false
other_key s t c d l true e n = let q = cell_of_key s t c d l e in absurd (n q.0 q.1)
other_key s t c d l false e n = e

kept_none : (s t c periods : ℕ) (ds : List ℕ) (d : ℕ) (ls : List LoadRow)
    → ((l : LoadRow) → Among ls l → is_load_at t s l ≡ true → d ≡ c → ⊥) → weight s t c (kept periods ds d ls) ≡ 0
kept_none s t c periods ds d [] n = weight-nil s t c
kept_none s t c periods ds d (l ∷ ls) n =
    omega (
      arith,
      kept_weight s t c periods ds d l ls,
      one_none s t c periods ds d l (other_key s t c d l (is_cell_of s t c (load_cell d l)) refl (n l (inl refl))),
      kept_none s t c periods ds d ls (λ k m. n k (inr m)),
    )

kept_once : (s t c periods : ℕ) (ds : List ℕ) (d : ℕ) (ls : List LoadRow) → AreLoadsApart ls
    → weight s t c (kept periods ds d ls) ≤ 1
kept_once s t c periods ds d [] a = omega (arith, weight-nil s t c)
kept_once s t c periods ds d (l ∷ ls) a =
    by (is_cell_of s t c (load_cell d l)) refl (kept_once s t c periods ds d ls a.1)
  where
    rest_none : is_load_at t s l ≡ true → weight s t c (kept periods ds d ls) ≡ 0
    rest_none h = kept_none s t c periods ds d ls (λ k m g e.
        let q = load_is_at l t s h in
        let none : find (is_load_at t s) ls ≡ None =
        sym (ap (λ n. find (is_load_at n l.start) ls) q.0 ∙ ap (λ n. find (is_load_at t n) ls) q.1) ∙ a.0 in
        clash (is_load_at t s k) g (none_passes (is_load_at t s) ls k none m))
      where
        clash : (b : Bool) → b ≡ true → b ≡ false → ⊥
        clash b x y = cc

    by : (b : Bool) → is_cell_of s t c (load_cell d l) ≡ b → weight s t c (kept periods ds d ls) ≤ 1
        → weight s t c (kept periods ds d (l ∷ ls)) ≤ 1
    by true e r = let q = cell_of_key s t c d l e in
        omega (arith, kept_weight s t c periods ds d l ls, one_most s t c periods ds d l, rest_none q.0)
    by false e r = omega (arith, kept_weight s t c periods ds d l ls, one_none s t c periods ds d l e, r)

bytes_same : (a b : List ℕ) → bytes_eq a b ≡ true → a ≡ b
bytes_same a b h = (bytes_eq-Decides a b).0 h

all_none : (s t c periods : ℕ) (ds : List ℕ) (names : List (List ℕ)) (ws : List WorkloadRow)
    → ((w : WorkloadRow) → Among ws w → position (bytes_eq w.resource) names ≡ Some c → ⊥)
    → weight s t c (all_kept periods ds names ws) ≡ 0
all_none s t c periods ds names [] n = weight-nil s t c
all_none s t c periods ds names (w ∷ ws) n =
    omega (
      arith,
      weight-append s t c (kept_of periods ds (position (bytes_eq w.resource) names) w.loads)
          (all_kept periods ds names ws),
      by (position (bytes_eq w.resource) names) refl,
      all_none s t c periods ds names ws (λ v m. n v (inr m)),
    )
  where
    by : (o : Option ℕ) → position (bytes_eq w.resource) names ≡ o → weight s t c (kept_of periods ds o w.loads) ≡ 0
    by None e = weight-nil s t c
    by (Some d) e = kept_none s t c periods ds d w.loads (λ l m h g. n w (inl refl) (e ∙ ap Some g))

all_once : (s t c periods : ℕ) (ds : List ℕ) (names : List (List ℕ)) (ws : List WorkloadRow) → AreWorkloadsApart ws
    → weight s t c (all_kept periods ds names ws) ≤ 1
all_once s t c periods ds names [] a = omega (arith, weight-nil s t c)
all_once s t c periods ds names (w ∷ ws) a =
    let split = weight-append s t c (kept_of periods ds (position (bytes_eq w.resource) names) w.loads)
    (all_kept periods ds names ws) in
    by (position (bytes_eq w.resource) names) refl split (all_once s t c periods ds names ws a.2)
  where
    -- no other workload is of this resource
    rest_none : (d : ℕ) → position (bytes_eq w.resource) names ≡ Some d → d ≡ c
        → weight s t c (all_kept periods ds names ws) ≡ 0
    rest_none d e g = all_none s t c periods ds names ws (λ v m h.
        let p = position-Some (bytes_eq w.resource) names d [] e in
        let q = position-Some (bytes_eq v.resource) names c [] h in
        let same : w.resource ≡ v.resource = bytes_same w.resource (get_or names d []) p.1
        ∙ ap (λ n. get_or names n []) g ∙ sym (bytes_same v.resource (get_or names c []) q.1) in
        clash (bytes_eq w.resource v.resource) ((bytes_eq-Decides w.resource v.resource).1 same)
        (none_passes (λ u. bytes_eq w.resource u.resource) ws v a.0 m))
      where
        clash : (b : Bool) → b ≡ true → b ≡ false → ⊥
        clash b x y = cc

    one_resource : (d : ℕ) → position (bytes_eq w.resource) names ≡ Some d → (b : Bool) → (d == c) ≡ b
        → weight s t c (all_kept periods ds names ws) ≤ 1
        → weight s t c (kept periods ds d w.loads) + weight s t c (all_kept periods ds names ws) ≤ 1
    one_resource d e true g r = omega (arith, kept_once s t c periods ds d w.loads a.1, rest_none d e (equal_so d c g))
    one_resource d e false g r = omega (arith, r, kept_none s t c periods ds d w.loads (λ l m h i. differ d c g i))
      where
        differ : (x y : ℕ) → (x == y) ≡ false → x ≡ y → ⊥
        differ x y h k = grind (arith, nat_tests)

    by : (o : Option ℕ) → position (bytes_eq w.resource) names ≡ o
        → weight s t c (all_kept periods ds names (w ∷ ws))
        ≡ weight s t c (kept_of periods ds (position (bytes_eq w.resource) names) w.loads)
        + weight s t c (all_kept periods ds names ws)
        → weight s t c (all_kept periods ds names ws) ≤ 1 → weight s t c (all_kept periods ds names (w ∷ ws)) ≤ 1
    by None e split r = let none = ap (λ o. weight s t c (kept_of periods ds o w.loads)) e in
        omega (arith, split, none, weight-nil s t c, r)
    by (Some d) e split r = let some = ap (λ o. weight s t c (kept_of periods ds o w.loads)) e in
        omega (arith, split, some, one_resource d e (d == c) refl r)

-- ---- members, as std has them

among_contains : (xs : List LoadCell) (z : LoadCell) → Among xs z → Contains xs z
among_contains [] z m = absurd m
among_contains (x ∷ xs) z (inl e) = (0, omega arith, e)
among_contains (x ∷ xs) z (inr m) = let q = among_contains xs z m in (suc q.0, omega (arith, q.1), q.2)

contains_among : (xs : List LoadCell) (z : LoadCell) (k : ℕ) → k < length xs → get_or xs k z ≡ z → Among xs z
contains_among [] z k l e = absurd (omega arith)
contains_among (x ∷ xs) z zero l e = inl e
contains_among (x ∷ xs) z (suc k) l e = inr (contains_among xs z k (omega arith) e)

moved : (xs ys : List LoadCell) → IsPermutation xs ys → (z : LoadCell) → Among xs z → Among ys z
moved xs ys p z m = let q = Contains-permutation xs ys z p (among_contains xs z m) in contains_among ys z q.0 q.1 q.2

-- what is kept, put in order, is the table
pub sorted_is : (periods : ℕ) (ds : List ℕ) (names : List (List ℕ)) (ws : List WorkloadRow) (cells : List LoadCell)
    → AllPairs (λ a b. a ≢ b) names → AreWorkloadsApart ws
    → IsPermutation (all_kept periods ds names ws) cells → IsSortedBy precedes cells
    → cells ≡ each_run periods ds (cells_at names ws)
sorted_is periods ds names ws cells n a p up =
    let back = IsPermutation-sym (all_kept periods ds names ws) cells p in
    same_members CellBefore cells (each_run periods ds (cells_at names ws)) cell_asym
    (rises_sorted cells up
    (λ s t c. omega
    (arith, weight_moved s t c (all_kept periods ds names ws) cells p, all_once s t c periods ds names ws a)))
    (table_rises periods ds names ws)
    (λ z m. member_table periods ds names ws z
    (kept_is_cell periods ds names ws z a (moved cells (all_kept periods ds names ws) back z m)))
    (λ z m. moved (all_kept periods ds names ws) cells p z
    (cell_is_kept periods ds names ws z n (table_member periods ds names ws z m)))
