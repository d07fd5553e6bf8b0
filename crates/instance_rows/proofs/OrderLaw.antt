-- What the lists of an order give is what the allowed runs take.
use Rattle.std.proofs.Common.{◌≡◌, ℕ, zero, suc, ◌+◌, ◌<◌, Bool, true, false, cond, List, [], ◌∷◌, ◌++◌, map, length}
use Rattle.std.proofs.Common.{get_or, Option, Some, None, refl, sym, ◌∙◌, ap, arith, append-nil}
use Rattle.std.specs.Prelude.{flat_map, slice_index, All, IsSome}
use Rattle.std.proofs.lemmas.Grind.{flat_map-append}
use Rattle.std.proofs.lemmas.List.{map-append}
use Rattle.std.proofs.lemmas.List.Concat.{flat_map_single}
use Rattle.std.proofs.lemmas.List.Elements.{All-nil, All-cons, All-head, All-tail}
use Rattle.instance_model.specs.Tables.{allowed_of}
use Rattle.instance_shape.specs.FileTables.{lists_below}
use Rattle.instance_shape.proofs.ListsBelow.{all_lists, all_cond}
use Rattle.instance_rows.specs.declared.fill.WorkTables.{WorkTables}
use Rattle.instance_rows.specs.FileRows.{WorkRow}
use Rattle.instance_model.specs.RiskLists.{RiskRow}
use Rattle.instance_rows.specs.Filled.{lists_taken, IsReady, AreTablesOf}
use Rattle.instance_model.specs.RunRisks.{no_list, runs_of, flags_of}
use Rattle.instance_model.specs.RunRisks as runs
use Rattle.instance_rows.specs.Grid.{place_of, one_or_none, order_of}
use Rattle.instance_rows.specs.RowFaults.{is_list_at, used_durations}
use Rattle.instance_rows.specs.RowTables.{each_run, values_of, soft_of, risks_at, soft_at, cells_at}
use Rattle.instance_rows.proofs.Places.{place_none, place_some, StandsAt}

-- ---- lists of lists

joined_lists : {A B : Type 0} (g : A → List B) (n : ℕ) (f : ℕ → List A)
    → flat_map g (lists_below n f) ≡ lists_below n (λ k. flat_map g (f k))
joined_lists g zero f = refl
joined_lists g (suc n) f =
    flat_map-append g (lists_below n f) (f n) ∙ ap (λ r. r ++ flat_map g (f n)) (joined_lists g n f)

joined_choice : {A B : Type 0} (g : A → List B) (b : Bool) (xs : List A)
    → flat_map g (cond b xs []) ≡ cond b (flat_map g xs) []
joined_choice g true xs = refl
joined_choice g false xs = refl

lists_alike : {A : Type 0} (n : ℕ) (f g : ℕ → List A) → ((k : ℕ) → k < n → f k ≡ g k)
    → lists_below n f ≡ lists_below n g
lists_alike zero f g h = refl
lists_alike (suc n) f g h = ap (λ r. r ++ f n) (lists_alike n f g (λ k l. h k (omega arith)))
    ∙ ap (λ r. lists_below n g ++ r) (h n (omega arith))

-- what is made of what each allowed run gives
joined_runs : {A B : Type 0} (g : A → List B) (periods : ℕ) (ds : List ℕ) (f : ℕ → ℕ → List A) (h : ℕ → ℕ → List B)
    → ((k j : ℕ) → k < length ds → allowed_of periods ds (k + 1) ≡ true → j < slice_index ds k
    → flat_map g (f (k + 1) (k + 1 + j)) ≡ h (k + 1) (k + 1 + j))
    → flat_map g (each_run periods ds f) ≡ each_run periods ds h
joined_runs {A} {B} g periods ds f h e =
    joined_lists g (length ds) _
    ∙ lists_alike (length ds) _ _
    (λ k l. joined_choice g (allowed_of periods ds (k + 1)) (lists_below (slice_index ds k)
    (λ j. f (k + 1) (k + 1 + j))) ∙ by k l (allowed_of periods ds (k + 1)) refl)
  where
    by : (k : ℕ) → k < length ds → (b : Bool) → allowed_of periods ds (k + 1) ≡ b
        → cond b (flat_map g (lists_below (slice_index ds k) (λ j. f (k + 1) (k + 1 + j)))) []
        ≡ cond b (lists_below (slice_index ds k) (λ j. h (k + 1) (k + 1 + j))) []
    by k l true a = joined_lists g (slice_index ds k) (λ j. f (k + 1) (k + 1 + j))
        ∙ lists_alike (slice_index ds k) _ _ (λ j m. e k j l a m)
    by k l false a = refl

-- ---- of one list

one_values : (rs : List RiskRow) (s t : ℕ) (o : Option ℕ) → place_of rs s t ≡ o
    → flat_map (λ k. (get_or rs k no_list).values) (one_or_none o) ≡ risks_at rs s t
one_values rs s t None e = ap values_of (sym (place_none (is_list_at t s) 0 rs e))
one_values rs s t (Some k) e =
    let at : StandsAt (is_list_at t s) rs k = place_some (is_list_at t s) rs k e in
    append-nil (get_or rs k no_list).values ∙ ap values_of (sym (at.first no_list))

one_soft : (rs : List RiskRow) (s t : ℕ) (o : Option ℕ) → place_of rs s t ≡ o → IsSome o
    → flat_map (λ k. (get_or rs k no_list).soft ∷ []) (one_or_none o) ≡ soft_at rs s t
one_soft rs s t None e h = cc
one_soft rs s t (Some k) e h =
    let at : StandsAt (is_list_at t s) rs k = place_some (is_list_at t s) rs k e in
    ap (λ (q : Option RiskRow). soft_of q ∷ []) (sym (at.first no_list))

pub values_taken : (periods : ℕ) (w : WorkRow) → flat_map (λ k. (get_or w.risks k no_list).values) (order_of periods w)
    ≡ each_run periods (used_durations w) (risks_at w.risks)
values_taken periods w = joined_runs (λ k. (get_or w.risks k no_list).values) periods (used_durations w)
    (λ s t. one_or_none (place_of w.risks s t)) (risks_at w.risks)
    (λ k j l a m. one_values w.risks (k + 1) (k + 1 + j) (place_of w.risks (k + 1) (k + 1 + j)) refl)

pub soft_taken : (periods : ℕ) (w : WorkRow) → IsReady periods w → map (λ k. (get_or w.risks k no_list).soft) (order_of
    periods w) ≡ each_run periods (used_durations w) (soft_at w.risks)
soft_taken periods w r =
    sym (flat_map_single (λ k. (get_or w.risks k no_list).soft) (order_of periods w))
    ∙ joined_runs (λ k. (get_or w.risks k no_list).soft ∷ []) periods (used_durations w)
    (λ s t. one_or_none (place_of w.risks s t)) (soft_at w.risks)
    (λ k j l a m. one_soft w.risks (k + 1) (k + 1 + j) (place_of w.risks (k + 1) (k + 1 + j)) refl (r.lists k j l a m))

-- ---- the numbers in an order are those of lists

one_below : (rs : List RiskRow) (s t : ℕ) (o : Option ℕ) → place_of rs s t ≡ o
    → All (λ k. k < length rs) (one_or_none o)
one_below rs s t None e = All-nil _
one_below rs s t (Some k) e =
    let at : StandsAt (is_list_at t s) rs k = place_some (is_list_at t s) rs k e in
    All-cons (λ k. k < length rs) k [] at.below (All-nil _)

pub order_below : (periods : ℕ) (w : WorkRow) → All (λ k. k < length w.risks) (order_of periods w)
order_below periods w =
    all_lists (λ k. k < length w.risks) (length (used_durations w)) _
    (λ k l. all_cond (λ k. k < length w.risks) (allowed_of periods (used_durations w) (k + 1)) _ (λ a.
    all_lists (λ k. k < length w.risks) (slice_index (used_durations w) k) _
    (λ j m. one_below w.risks (k + 1) (k + 1 + j) (place_of w.risks (k + 1) (k + 1 + j)) refl)))

-- ---- the tables of what was taken

-- the risks and the flags of the lists that were taken
pub all_values : (periods : ℕ) (ws : List WorkRow) → flat_map runs.values_of (map (lists_taken periods) ws)
    ≡ flat_map (λ w. each_run periods (used_durations w) (risks_at w.risks)) ws
all_values periods [] = refl
all_values periods (w ∷ ws) =
    ap (λ q. q ++ flat_map runs.values_of (map (lists_taken periods) ws))
    (joined_values w.risks (order_of periods w) ∙ values_taken periods w)
    ∙ ap (λ q. each_run periods (used_durations w) (risks_at w.risks) ++ q) (all_values periods ws)
  where
    joined_values : (rs : List RiskRow) (ks : List ℕ) → runs.values_of (map (λ k. get_or rs k no_list) ks)
        ≡ flat_map (λ k. (get_or rs k no_list).values) ks
    joined_values rs [] = refl
    joined_values rs (k ∷ ks) = ap (λ q. (get_or rs k no_list).values ++ q) (joined_values rs ks)

pub all_flags : (periods : ℕ) (ws : List WorkRow) → All (λ w. IsReady periods w) ws
    → flat_map flags_of (map (lists_taken periods) ws)
    ≡ flat_map (λ w. each_run periods (used_durations w) (soft_at w.risks)) ws
all_flags periods [] h = refl
all_flags periods (w ∷ ws) h =
    ap (λ q. q ++ flat_map flags_of (map (lists_taken periods) ws))
    (joined_flags w.risks (order_of periods w)
    ∙ soft_taken periods w (All-head (λ (w : WorkRow). IsReady periods w) w ws h))
    ∙ ap (λ q. each_run periods (used_durations w) (soft_at w.risks) ++ q)
    (all_flags periods ws (All-tail (λ (w : WorkRow). IsReady periods w) w ws h))
  where
    joined_flags : (rs : List RiskRow) (ks : List ℕ) → flags_of (map (λ k. get_or rs k no_list) ks)
        ≡ map (λ k. (get_or rs k no_list).soft) ks
    joined_flags rs [] = refl
    joined_flags rs (k ∷ ks) = ap (λ q. (get_or rs k no_list).soft ∷ q) (joined_flags rs ks)

-- ---- the tables after one intervention more

pub tables_more : (periods : ℕ) (resources : List (List ℕ)) (works : List WorkRow) (w : WorkRow) (t u : WorkTables)
    → map (λ v. v.items) u.delta.items ≡ map (λ v. v.items) t.delta.items ++ used_durations w ∷ []
    → map (λ v. v.items) u.loads.items ≡ map (λ v. v.items) t.loads.items
    ++ each_run periods (used_durations w) (cells_at resources w.workloads) ∷ []
    → map runs_of u.risks.items ≡ map runs_of t.risks.items ++ lists_taken periods w ∷ []
    → AreTablesOf periods resources works t → AreTablesOf periods resources (works ++ w ∷ []) u
tables_more periods resources works w t u d l r a = record {
  delta = d ∙ ap (λ q. q ++ used_durations w ∷ []) a.delta ∙ sym (map-append used_durations works (w ∷ []));
  loads = l ∙ ap (λ q. q ++ each_run periods (used_durations w) (cells_at resources w.workloads) ∷ []) a.loads
      ∙ sym (map-append (λ w. each_run periods (used_durations w) (cells_at resources w.workloads)) works (w ∷ []));
  risks = r ∙ ap (λ q. q ++ lists_taken periods w ∷ []) a.risks
      ∙ sym (map-append (lists_taken periods) works (w ∷ []));
}
