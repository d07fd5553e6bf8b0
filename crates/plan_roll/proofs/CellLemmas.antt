-- Load cells of the rolled instance.
use Rattle.std.proofs.Common.{◌^◌, ◌≡◌, ℕ, suc, ◌<◌, ◌≤◌, refl, sym, ◌∙◌, ap, arith, ℤ, pos}
use Rattle.std.proofs.Common.{Bool, true, false, cond, not, ◌&&◌, List, [], ◌∷◌, length, get_or, Option, Some, None}
use Rattle.std.proofs.Common.{to_z, of_z, unsigned_abs, unwrap_or}
use Rattle.std.specs.Prelude.{find, filter, All, AllPairs, option_map, IsTrue}
use Rattle.std.specs.Ordering.{int_eq}
use Rattle.std.specs.Int.{w128}
use Rattle.fixed_num.proofs.SignedLemmas.{back_from_abs}
use Rattle.std.proofs.lemmas.Bool.Decides.{nat_tests, Decides-int_eq}
use Rattle.std.proofs.lemmas.List.FromFn.{get_or-map-range_with_len}
use Rattle.std.proofs.lemmas.List.Elements.{All-head, All-tail, All-filter, All-weaker, filter_passes}
use Rattle.std.proofs.lemmas.List.Kept.{AllPairs-filter}
use Rattle.instance_model.specs.declared.parts.LoadCell.{LoadCell}
use Rattle.instance_model.specs.Tables.{Tables, is_allowed, in_run, is_cell_of, load_of}
use Rattle.instance_model.specs.Fitting.{IsFitting, AreCells, CellBefore}
use Rattle.plan_roll.specs.Rolled.{is_left, keeps_cell, rolled_cells, rolled}
use Rattle.plan_roll.proofs.StartLemmas.{IsLeftStart-from, is_left_is, in_run_is}

pub cells_are : (inst : Tables) (plan : List (Option ℕ)) (period i : ℕ) → i < length inst.names
    → get_or (rolled inst plan period).loads i [] ≡ rolled_cells inst plan period i
cells_are inst plan period i h =
    get_or-map-range_with_len (rolled_cells inst plan period) 0 (length inst.names) i i [] h (omega arith)

-- ---- the load that is found

-- no later cell has the key of an earlier one
later_differs : (s t c : ℕ) (a b : LoadCell) → is_cell_of s t c a ≡ true → CellBefore a b
    → is_cell_of s t c b ≡ false
later_differs s t c a b e h = grind (arith, nat_tests)

-- where no cell passes, none of those that are kept does
find_kept_none : (p q : LoadCell → Bool) (cells : List LoadCell) → All (λ b. p b ≡ false) cells
    → find p (filter q cells) ≡ None
find_kept_none p q [] all = refl
find_kept_none p q (x ∷ xs) all = by (q x) (find_kept_none p q xs (All-tail (λ b. p b ≡ false) x xs all))
  where
    by : (b : Bool) → find p (filter q xs) ≡ None → find p (cond b (x ∷ filter q xs) (filter q xs)) ≡ None
    by true r = ap (λ b. cond b (Some x) (find p (filter q xs))) (All-head (λ b. p b ≡ false) x xs all) ∙ r
    by false r = r

abbrev pub load_in : Option LoadCell → ℤ
load_in o = unwrap_or (option_map (λ cell. cell.load) o) (pos 0)

pairs_tail : (x : LoadCell) (xs : List LoadCell) → AllPairs CellBefore (x ∷ xs) → AllPairs CellBefore xs
pairs_tail x xs a = λ i j d k l. a (suc i) (suc j) d (omega arith) (omega arith)

pairs_head : (x : LoadCell) (xs : List LoadCell) → AllPairs CellBefore (x ∷ xs) → All (CellBefore x) xs
pairs_head x xs a = λ k d l. a 0 (suc k) d (omega arith) (omega arith)

not_true : (b : Bool) → not b ≡ true → b ≡ false
not_true true h = absurd (cc)
not_true false h = refl

not_false : (b : Bool) → not b ≡ false → b ≡ true
not_false true h = refl
not_false false h = absurd (cc)

-- a load, unless it is 0
abbrev pub nonzero : ℤ → Option ℤ
nonzero z = cond (int_eq z (pos 0)) None (Some z)

-- by the bits of the load
pub none_by_bits : (z : ℤ) → unsigned_abs z < 10 ^ 20 → of_z w128 z ≡ 0 → nonzero z ≡ None
none_by_bits z h e =
    let small : unsigned_abs z < 2 ^ 127 = omega (arith, h) in
    let zero_is : z ≡ pos 0 = sym (back_from_abs z small) ∙ ap (to_z w128) e in
    ap nonzero zero_is

pub some_by_bits : (z : ℤ) → (of_z w128 z ≡ 0 → ⊥) → nonzero z ≡ Some z
some_by_bits z h = by (int_eq z (pos 0)) refl
  where
    by : (b : Bool) → int_eq z (pos 0) ≡ b → cond b None (Some z) ≡ Some z
    by true e = absurd (h (ap (of_z w128) ((Decides-int_eq z (pos 0)).0 e)))
    by false e = refl

unwrap_nonzero : (z : ℤ) → unwrap_or (nonzero z) (pos 0) ≡ z
unwrap_nonzero z = by (int_eq z (pos 0)) refl
  where
    by : (b : Bool) → int_eq z (pos 0) ≡ b → unwrap_or (cond b None (Some z)) (pos 0) ≡ z
    by true e = sym ((Decides-int_eq z (pos 0)).0 e)
    by false e = refl

abbrev pub loads_in : Option LoadCell → Option ℤ
loads_in o = option_map (λ cell. cell.load) o

-- a filter that lets all cells of a key pass but those of load 0 leaves the load of the key, unless it is 0
load_kept : (s t c : ℕ) (q : LoadCell → Bool) (cells : List LoadCell) → AllPairs CellBefore cells
    → ((cell : LoadCell) → is_cell_of s t c cell ≡ true → q cell ≡ not (int_eq cell.load (pos 0)))
    → loads_in (find (is_cell_of s t c) (filter q cells)) ≡ nonzero (load_in (find (is_cell_of s t c) cells))
load_kept s t c q [] a h = refl
load_kept s t c q (x ∷ xs) a h =
    by (is_cell_of s t c x) (q x) refl refl (load_kept s t c q xs (pairs_tail x xs a) h)
  where
    p : LoadCell → Bool
    p = is_cell_of s t c

    others : p x ≡ true → All (λ b. p b ≡ false) xs
    others e = All-weaker (CellBefore x) (λ b. p b ≡ false) (λ b k. later_differs s t c x b e k) xs (pairs_head x xs a)

    by : (b k : Bool) → p x ≡ b → q x ≡ k → loads_in (find p (filter q xs)) ≡ nonzero (load_in (find p xs))
        → loads_in (find p (cond k (x ∷ filter q xs) (filter q xs))) ≡ nonzero (load_in (cond b (Some x) (find p xs)))
    by true true e f r =
        ap (λ b. loads_in (cond b (Some x) (find p (filter q xs)))) e
        ∙ ap (λ b. cond b None (Some x.load)) (sym (not_true (int_eq x.load (pos 0)) (sym (h x e) ∙ f)))
    by true false e f r =
        ap loads_in (find_kept_none p q xs (others e))
        ∙ ap (λ b. cond b None (Some x.load)) (sym (not_false (int_eq x.load (pos 0)) (sym (h x e) ∙ f)))
    by false true e f r = ap (λ b. loads_in (cond b (Some x) (find p (filter q xs)))) e ∙ r
    by false false e f r = r

start_of_key : (s t c : ℕ) (cell : LoadCell) → is_cell_of s t c cell ≡ true → cell.start ≡ s
start_of_key s t c cell e = grind (arith, nat_tests)

-- the cell of a start that is left, unless its load is 0
pub cell_is : (inst : Tables) (plan : List (Option ℕ)) (period i s c t : ℕ) → IsFitting inst → i < length inst.names
    → is_allowed (rolled inst plan period) i s ≡ true
    → loads_in (find (is_cell_of s t c) (get_or (rolled inst plan period).loads i []))
    ≡ nonzero (load_of inst i s c t)
unfolding load_of rolled_cells
cell_is inst plan period i s c t f h a =
    ap (λ cells. loads_in (find (is_cell_of s t c) cells)) (cells_are inst plan period i h)
    ∙ load_kept s t c (keeps_cell inst plan period i) (get_or inst.loads i []) (f.cells i h).ordered
    (λ cell e.
    let left : is_left inst plan period i cell.start ≡ true =
    ap (is_left inst plan period i) (start_of_key s t c cell e) ∙ is_left_is inst plan period i s ∙ a in
    ap (λ b. b && not (int_eq cell.load (pos 0))) left)

-- the load of a start that is left
pub load_is : (inst : Tables) (plan : List (Option ℕ)) (period i s c t : ℕ) → IsFitting inst → i < length inst.names
    → is_allowed (rolled inst plan period) i s ≡ true
    → load_of (rolled inst plan period) i s c t ≡ load_of inst i s c t
unfolding load_of
load_is inst plan period i s c t f h a =
    ap (λ o. unwrap_or o (pos 0)) (cell_is inst plan period i s c t f h a)
    ∙ unwrap_nonzero (load_in (find (is_cell_of s t c) (get_or inst.loads i [])))

-- ---- the cells are those of the rolled instance

both : (P Q : LoadCell → Type 0) (cells : List LoadCell) → All P cells → All Q cells
    → All (λ cell. P cell × Q cell) cells
both P Q cells p q = λ k d l. (p k d l, q k d l)

left_of_kept : (inst : Tables) (plan : List (Option ℕ)) (period i : ℕ) (cell : LoadCell)
    → keeps_cell inst plan period i cell ≡ true → is_allowed (rolled inst plan period) i cell.start ≡ true
left_of_kept inst plan period i cell e =
    by (is_left inst plan period i cell.start) refl e
  where
    by : (b : Bool) → is_left inst plan period i cell.start ≡ b → (b && not (int_eq cell.load (pos 0))) ≡ true
        → is_allowed (rolled inst plan period) i cell.start ≡ true
    by true k e = sym (is_left_is inst plan period i cell.start) ∙ k
    by false k e = absurd (cc)

pub cells_fit : (inst : Tables) (plan : List (Option ℕ)) (period i : ℕ) → IsFitting inst → i < length inst.names
    → AreCells (rolled inst plan period) i (rolled_cells inst plan period i)
unfolding rolled_cells
cells_fit inst plan period i f h =
    let cells = get_or inst.loads i [] in
    let q = keeps_cell inst plan period i in
    let old = f.cells i h in
    let passed = filter_passes q cells in
    record {
      ordered = AllPairs-filter CellBefore q cells old.ordered;
      allowed = All-weaker (λ cell. q cell ≡ true)
          (λ cell. IsTrue (is_allowed (rolled inst plan period) i cell.start))
          (λ cell e. left_of_kept inst plan period i cell e) (filter q cells) passed;
      running = All-weaker (λ cell. (q cell ≡ true) × IsTrue (in_run inst i cell.start cell.period))
          (λ cell. IsTrue (in_run (rolled inst plan period) i cell.start cell.period))
          (λ cell w.
          let left = IsLeftStart-from inst plan period i cell.start h (left_of_kept inst plan period i cell w.0) in
          in_run_is inst plan period i cell.start cell.period left.same ∙ w.1) (filter q cells)
          (both (λ cell. q cell ≡ true) (λ cell. IsTrue (in_run inst i cell.start cell.period)) (filter q cells) passed
          (All-filter q (λ cell. IsTrue (in_run inst i cell.start cell.period)) cells old.running));
      resources = All-filter q (λ cell. cell.resource < length inst.resource_names) cells old.resources;
      small = All-filter q (λ cell. unsigned_abs cell.load < 10 ^ 20) cells old.small;
    }

pub few_kept : (q : LoadCell → Bool) (cells : List LoadCell) → length (filter q cells) ≤ length cells
few_kept q [] = omega arith
few_kept q (x ∷ xs) = by (q x) (few_kept q xs)
  where
    by : (b : Bool) → length (filter q xs) ≤ length xs
        → length (cond b (x ∷ filter q xs) (filter q xs)) ≤ suc (length xs)
    by true r = omega arith
    by false r = omega arith
