-- Starts, runs and load cells of a view.
use Rattle.std.proofs.Common.{◌≡◌, ◌⊎◌, ℕ, ◌+◌, ◌-◌, ◌<◌, ◌≤◌, Bool, true, false, ◌&&◌, cond, List, [], ◌∷◌, refl, sym}
use Rattle.std.proofs.Common.{◌∙◌, ap, arith, true≢false}
use Rattle.std.proofs.Common.{Option, Some, None, inl, inr, is_some, length}
use Rattle.std.specs.Prelude.{ℤ, pos, nat_le, nat_lt, IsTrue, IsSome, All, slice_index, slice_index_or, find}
use Rattle.std.specs.Prelude.{option_map, unwrap_or}
use Rattle.std.proofs.lemmas.Bool.Decides.{nat_tests}
use Rattle.std.proofs.lemmas.List.Elements.{All-head, All-tail}
use Rattle.instance_model.specs.declared.parts.LoadCell.{LoadCell}
use Rattle.instance_model.specs.Tables.{Tables, tmax, delta_of, is_allowed, allowed_of, in_run, scenarios_of, risk_of}
use Rattle.instance_model.specs.Tables.{is_cell_of, load_of}
use Rattle.instance_model.specs.Fitting.{AreCells, IsFitting}
use Rattle.fixed_num.specs.Sums.{list_of}
use Rattle.fixed_num.proofs.SumLemmas.{list_of_same}
use Rattle.instance_writer.specs.text.Styles.{Style}
use Rattle.instance_writer.specs.text.Written.{count_number, count_list, risks_of}
use Rattle.instance_writer.specs.Views.{IsViewOf, cell_load}
use Rattle.instance_writer.specs.Steps.{start_load}

pub running_if : (view : Tables) (i s t at past : ℕ) → 1 ≤ s → s ≤ tmax view i → past ≤ view.periods + 1 → s ≤ t
    → at ≡ t → past ≡ s + delta_of view i s → nat_lt at past ≡ (is_allowed view i s && in_run view i s t)
unfolding is_allowed allowed_of in_run tmax delta_of
running_if view i s t at past some few ends from e p = grind (arith, nat_tests)

pub not_running : (view : Tables) (i s t past : ℕ) → past ≡ s + delta_of view i s
    → (t < s) ⊎ (view.periods + 1 < past) → false ≡ (is_allowed view i s && in_run view i s t)
unfolding is_allowed allowed_of in_run delta_of
not_running view i s t past p (inl before) = grind (arith, nat_tests)
not_running view i s t past p (inr after) = grind (arith, nat_tests)

-- ---- tables that a view keeps

module _ (inst view : Tables) (shown : IsViewOf inst view) where
  pub same_periods : view.periods ≡ inst.periods
  same_periods = ap (λ (t : Tables). t.periods) shown.same

  pub same_names : view.names ≡ inst.names
  same_names = ap (λ (t : Tables). t.names) shown.same

  pub in_view : (i : ℕ) → i < length inst.names → i < length view.names
  in_view i low = omega (arith, ap (λ (t : Tables). length t.names) shown.same, low)

  pub same_resources : view.resource_names ≡ inst.resource_names
  same_resources = ap (λ (t : Tables). t.resource_names) shown.same

  pub same_scenarios : (t : ℕ) → scenarios_of view t ≡ scenarios_of inst t
  unfolding scenarios_of
  same_scenarios t = ap (λ (l : Tables). slice_index l.scenarios (t - 1)) shown.same

-- ---- load cells

find_none : {X : Type 0} (p : X → Bool) (xs : List X) → All (λ x. p x ≡ false) xs → find p xs ≡ None
find_none p [] none = refl
find_none p (x ∷ xs) none =
    ap (λ b. cond b (Some x) (find p xs)) (All-head (λ y. p y ≡ false) x xs none)
    ∙ find_none p xs (All-tail (λ y. p y ≡ false) x xs none)

other_cell : (view : Tables) (i s t c : ℕ) (cell : LoadCell) → IsTrue (is_allowed view i cell.start)
    → IsTrue (in_run view i cell.start cell.period) → (is_allowed view i s && in_run view i s t) ≡ false
    → is_cell_of s t c cell ≡ false
other_cell view i s t c cell allowed running not = grind (arith, nat_tests)

pub no_cell : (view : Tables) (i s t c : ℕ) → AreCells view i (slice_index_or view.loads i [])
    → (is_allowed view i s && in_run view i s t) ≡ false → cell_load view i s c t ≡ None
no_cell view i s t c cells not =
    ap (option_map (λ (cell : LoadCell). cell.load))
    (find_none (is_cell_of s t c) (slice_index_or view.loads i [])
    (λ k d low. other_cell view i s t c (slice_index_or (slice_index_or view.loads i []) k d) (cells.allowed k d low)
    (cells.running k d low) not))

pub start_load_is : (style : Style) (view : Tables) (i c t s : ℕ)
    → start_load style view i c t s ≡ option_map (count_number style) (cell_load view i s c t)
start_load_is style view i c t s = go (find (is_cell_of s t c) (slice_index_or view.loads i []))
  where
    go : (o : Option LoadCell) → option_map (λ (cell : LoadCell). count_number style cell.load) o
        ≡ option_map (count_number style) (option_map (λ (cell : LoadCell). cell.load) o)
    go None = refl
    go (Some cell) = refl

pub start_load_some : (style : Style) (view : Tables) (i c t s : ℕ)
    → is_some (start_load style view i c t s) ≡ is_some (cell_load view i s c t)
start_load_some style view i c t s = ap is_some (start_load_is style view i c t s) ∙ go (cell_load view i s c t)
  where
    go : (o : Option ℤ) → is_some (option_map (count_number style) o) ≡ is_some o
    go None = refl
    go (Some z) = refl

pub risks_some : (style : Style) (view : Tables) (i t s : ℕ)
    → is_some (risks_of style view i t s) ≡ (is_allowed view i s && in_run view i s t)
risks_some style view i t s = go (is_allowed view i s && in_run view i s t)
  where
    go : (b : Bool) → is_some (cond b
        (Some (count_list style (list_of (scenarios_of view t) (λ k. risk_of view i s t (k + 1))))) None) ≡ b
    go true = refl
    go false = refl

pub risks_running : (style : Style) (view : Tables) (i t s : ℕ) → (is_allowed view i s && in_run view i s t) ≡ true
    → risks_of style view i t s
    ≡ Some (count_list style (list_of (scenarios_of view t) (λ k. risk_of view i s t (k + 1))))
risks_running style view i t s runs =
    ap (λ b. cond b (Some (count_list style (list_of (scenarios_of view t) (λ k. risk_of view i s t (k + 1))))) None)
    runs

-- ---- an instance that is shown as it is

pub shows_itself : (inst : Tables) → IsFitting inst → IsViewOf inst inst
shows_itself inst fits = record {
  same = refl;
  starts = λ i low. refl;
  durations = λ i s low allowed. refl;
  risks = λ i s t k low allowed running from to. refl;
  fits = fits;
}

pub cell_load_is : (inst : Tables) (i s c t : ℕ) → IsSome (cell_load inst i s c t)
    → Some (load_of inst i s c t) ≡ cell_load inst i s c t
unfolding load_of
cell_load_is inst i s c t some = go (cell_load inst i s c t) some
  where
    go : (o : Option ℤ) → IsSome o → Some (unwrap_or o (pos 0)) ≡ o
    go None none = absurd (true≢false (sym none))
    go (Some z) some = refl

-- ---- starts that a view allows

module _ (inst view : Tables) (shown : IsViewOf inst view) (i s : ℕ) (number : i < length inst.names)
    (allowed : IsTrue (is_allowed view i s)) where
  pub same_allowed : is_allowed view i s ≡ is_allowed inst i s
  unfolding is_allowed allowed_of tmax delta_of
  same_allowed =
      ap (λ n. nat_le 1 s && nat_le s n && nat_le (s + delta_of view i s) (view.periods + 1)) (shown.starts i number)
      ∙ ap (λ d. nat_le 1 s && nat_le s (tmax inst i) && nat_le (s + d) (view.periods + 1))
      (shown.durations i s number allowed)
      ∙ ap (λ p. nat_le 1 s && nat_le s (tmax inst i) && nat_le (s + delta_of inst i s) (p + 1))
      (same_periods inst view shown)

  pub same_run : (t : ℕ) → in_run view i s t ≡ in_run inst i s t
  unfolding in_run
  same_run t = ap (λ d. nat_le s t && nat_lt t (s + d)) (shown.durations i s number allowed)

  pub same_risks : (t : ℕ) → IsTrue (in_run view i s t)
      → list_of (scenarios_of inst t) (λ k. risk_of inst i s t (k + 1))
      ≡ list_of (scenarios_of view t) (λ k. risk_of view i s t (k + 1))
  same_risks t running =
      list_of_same (scenarios_of inst t) (λ k. risk_of inst i s t (k + 1)) (λ k. risk_of view i s t (k + 1))
      (λ k low. sym (shown.risks i s t (k + 1) number allowed running (omega arith) (omega arith)))
      ∙ ap (λ n. list_of n (λ k. risk_of view i s t (k + 1))) (sym (same_scenarios inst view shown t))
