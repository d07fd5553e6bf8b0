-- What is looked up in the tree of an intervention: its durations, and its workloads and risks by period and start.
use Rattle.std.proofs.Common.{◌≡◌, ℕ, ◌+◌, ◌<◌, ◌≤◌, Bool, true, false, cond, ◌&&◌, List, [], ◌∷◌, map}
use Rattle.std.proofs.Common.{length, take, Option, Some, None, refl, sym, ◌∙◌, ap, subst, arith, ℤ, find}
use Rattle.std.specs.Prelude.{All, slice_index_or, option_map}
use Rattle.std.proofs.lemmas.Bool.{and_from, cond-true}
use Rattle.std.proofs.lemmas.List.{take_all, length-map}
use Rattle.json_grammar.specs.Tree.{Tree}
use Rattle.json_grammar.specs.laws.Value.{Value, Field}
use Rattle.fixed_num.specs.Sums.{list_of}
use Rattle.instance_model.specs.declared.limits.Limits.{Limits}
use Rattle.instance_model.specs.declared.parts.LoadCell.{LoadCell}
use Rattle.instance_model.specs.Fitting.{IsFitting}
use Rattle.instance_model.specs.Tables.{Tables, scenarios_of, durations, tmax, is_allowed, in_run, risk_of, is_cell_of}
use Rattle.instance_model.proofs.EntryLemmas.{IsRunning-from}
use Rattle.instance_shape.specs.declared.fault.Known.TheVariants as is
use Rattle.instance_shape.specs.LookUp as file
use Rattle.instance_shape.specs.LookUp.{known, keys, elements, whole_at, count_at, at_key, at_number, number_in}
use Rattle.instance_shape.specs.LookUp.{workload}
use Rattle.instance_shape.specs.FileTables.{cell_of, risks_at, soft_at}
use Rattle.instance_writer.specs.text.Conditions.{SpellsCount, SpellsNumbers, HasSpellableNames, IsWithin}
use Rattle.instance_writer.specs.text.Styles.{Style}
use Rattle.instance_writer.specs.text.Written.{filled, numbered, named, whole_number, whole_list, count_number}
use Rattle.instance_writer.specs.text.Written.{count_list, load_value, workload_of, workload_value, risks_of}
use Rattle.instance_writer.specs.text.Written.{risk_value}
use Rattle.instance_writer.specs.text.Written.{intervention_value}
use Rattle.instance_writer.proofs.TextCells.{one_cell, key_of}
use Rattle.instance_writer.proofs.TextParts.{intervention_fields}
use Rattle.instance_writer.proofs.TextPlacing.{IsAt, IsOptionAt, elements_at, keys_at, zip_length, known_at, number_at}
use Rattle.instance_writer.proofs.TextPlacing.{number_in_filled, name_at}
use Rattle.instance_writer.proofs.TextRead.{whole_is, wholes_are, count_is, list_read, list_unrounded}
use Rattle.instance_writer.proofs.TextWhole.{few_periods, few_starts, risk_spelled, durations_small, counts_of}
use Rattle.instance_writer.proofs.TextWhole.{found_in}

-- ---- load cells

same_cell : (s t c : ℕ) (z : ℤ) (y : LoadCell) → y.start ≡ s → y.period ≡ t → y.resource ≡ c → z ≡ y.load
    → ◌≡◌ {A = LoadCell} (record { start = s; period = t; resource = c; load = z }) y
same_cell s t c z y p q r e =
    ap (λ (x : ℕ). record { start = x; period = t; resource = c; load = z }) (sym p)
    ∙ ap (λ (x : ℕ). record { start = y.start; period = x; resource = c; load = z }) (sym q)
    ∙ ap (λ (x : ℕ). record { start = y.start; period = y.period; resource = x; load = z }) (sym r)
    ∙ ap (λ (x : ℤ). record { start = y.start; period = y.period; resource = y.resource; load = x }) e

-- what a file's entry gives is the cell that it was written for
cell_is : (style : Style) (s t c : ℕ) (o : Option LoadCell) (x : Option Tree)
    → ((y : LoadCell) → o ≡ Some y → (y.start ≡ s) × (y.period ≡ t) × (y.resource ≡ c) × SpellsCount style y.load)
    → IsOptionAt (option_map (λ (cell : LoadCell). count_number style cell.load) o) x → cell_of s t c x ≡ one_cell o
cell_is style s t c None None k h = refl
cell_is style s t c None (Some x) k h = absurd h
cell_is style s t c (Some y) None k h = absurd h
cell_is style s t c (Some y) (Some x) k h =
    let p = k y refl in
    ap (λ (z : LoadCell). z ∷ []) (same_cell s t c (count_at x) y p.0 p.1 p.2 (count_is style y.load x p.3 h))

find_passes : (p : LoadCell → Bool) (cells : List LoadCell) (x : LoadCell) → find p cells ≡ Some x → p x ≡ true
find_passes p [] x e = cc
find_passes p (y ∷ cells) x e = by (p y) refl e (find_passes p cells x)
  where
    by : (b : Bool) → p y ≡ b → cond b (Some y) (find p cells) ≡ Some x → (find p cells ≡ Some x → p x ≡ true)
        → p x ≡ true
    by true q e r = let same : y ≡ x = cc in subst (λ (z : LoadCell). p z ≡ true) same q
    by false q e r = r e

module _ (limits : Limits) (style : Style) (inst : Tables) (fits : IsFitting inst) (within : IsWithin limits inst)
    (spells : SpellsNumbers style inst) (texts : HasSpellableNames inst) (i : ℕ) (l : i < length inst.names) (v : Tree)
    (here : IsAt (intervention_value style inst i) v) where
  fields : List Field
  fields = intervention_fields (whole_number (tmax inst i)) (whole_list (durations inst i))
      (workload_value style inst i) (risk_value style inst i)

  pub tmax_is : whole_at (known is.Tmax v) ≡ tmax inst i
  unfolding fields
  tmax_is = whole_is (tmax inst i) (known is.Tmax v) (few_starts limits style inst fits within spells texts i l)
      (known_at is.Tmax fields (whole_number (tmax inst i)) v refl here)

  delta_is : map whole_at (elements (known is.Delta v)) ≡ durations inst i
  unfolding fields
  delta_is = wholes_are (durations inst i) (known is.Delta v)
      (durations_small limits style inst fits within spells texts i l)
      (known_at is.Delta fields (whole_list (durations inst i)) v refl here)

  pub delta_long : length (elements (known is.Delta v)) ≡ tmax inst i
  unfolding fields tmax
  delta_long =
      zip_length IsAt (map whole_number (durations inst i)) (elements (known is.Delta v))
      (elements_at (map whole_number (durations inst i)) (known is.Delta v)
      (known_at is.Delta fields (whole_list (durations inst i)) v refl here))
      ∙ length-map (durations inst i) whole_number

  pub workload_keys : keys (known is.Workload v)
      ≡ map (λ f. f.key) (named inst.resource_names (workload_of style inst i))
  unfolding fields
  workload_keys = keys_at (named inst.resource_names (workload_of style inst i)) (known is.Workload v)
      (known_at is.Workload fields (workload_value style inst i) v refl here)

  pub starts_are : file.durations v ≡ durations inst i
  unfolding tmax
  starts_are =
      ap (λ n. take n (map whole_at (elements (known is.Delta v)))) tmax_is
      ∙ ap (λ ns. take (tmax inst i) ns) delta_is ∙ take_all (tmax inst i) (durations inst i) (omega arith)

  -- ---- workloads

  pub workload_at : (c s t : ℕ) → c < length inst.resource_names → 1 ≤ s → s ≤ tmax inst i → 1 ≤ t → t ≤ inst.periods
      → IsOptionAt (load_value style (slice_index_or inst.loads i []) c t s)
      (workload v (slice_index_or inst.resource_names c []) t s)
  unfolding fields
  workload_at c s t m one few from to =
      let name = slice_index_or inst.resource_names c [] in
      let object : IsAt (workload_value style inst i) (known is.Workload v) =
      known_at is.Workload fields (workload_value style inst i) v refl here in
      let by_name : IsOptionAt (workload_of style inst i c) (at_key name (known is.Workload v)) =
      name_at inst.resource_names c (workload_of style inst i) (known is.Workload v) fits.resources.apart m object in
      number_in_filled (tmax inst i) s (λ s. load_value style (slice_index_or inst.loads i []) c t s)
      (number_in t (at_key name (known is.Workload v)))
      (few_starts limits style inst fits within spells texts i l) one few
      (number_in_filled inst.periods t
      (λ t. filled (numbered (tmax inst i) (λ s. load_value style (slice_index_or inst.loads i []) c t s)))
      (at_key name (known is.Workload v)) (few_periods limits style inst fits within spells texts) from to by_name)

  pub cell_at : (c s t : ℕ) → c < length inst.resource_names → is_allowed inst i s ≡ true → in_run inst i s t ≡ true
      → cell_of s t c (workload v (slice_index_or inst.resource_names c []) t s)
      ≡ one_cell (find (is_cell_of s t c) (slice_index_or inst.loads i []))
  cell_at c s t m a r =
      let run = IsRunning-from inst i s t a r in
      let cells = slice_index_or inst.loads i [] in
      cell_is style s t c (find (is_cell_of s t c) cells) (workload v (slice_index_or inst.resource_names c []) t s)
      (λ y e.
      let k = key_of s t c y (find_passes (is_cell_of s t c) cells y e) in (
        k.0,
        k.1,
        k.2,
        found_in limits style inst fits within spells texts (λ cell. SpellsCount style cell.load)
            (is_cell_of s t c) cells y (spells.loads i l) e,
      ))
      (workload_at c s t m run.start run.among (omega (arith, run.start, run.from)) (omega (arith, run.to, run.ends)))

  -- ---- risks

  pub risks_there : (s t : ℕ) → is_allowed inst i s ≡ true → in_run inst i s t ≡ true
      → IsOptionAt (Some (count_list style (list_of (scenarios_of inst t) (λ k. risk_of inst i s t (k + 1)))))
      (number_in s (at_number t (known is.Risk v)))
  unfolding fields
  risks_there s t a r =
      let run = IsRunning-from inst i s t a r in
      let object : IsAt (risk_value style inst i) (known is.Risk v) =
      known_at is.Risk fields (risk_value style inst i) v refl here in
      let there : IsOptionAt (filled (numbered (tmax inst i) (risks_of style inst i t)))
      (at_number t (known is.Risk v)) =
      number_at inst.periods t (λ t. filled (numbered (tmax inst i) (risks_of style inst i t))) (known is.Risk v)
      (few_periods limits style inst fits within spells texts) (omega (arith, run.start, run.from))
      (omega (arith, run.to, run.ends)) object in
      let both : is_allowed inst i s && in_run inst i s t ≡ true = and_from _ _ a r in
      let some : risks_of style inst i t s
      ≡ Some (count_list style (list_of (scenarios_of inst t) (λ k. risk_of inst i s t (k + 1)))) =
      cond-true (is_allowed inst i s && in_run inst i s t) (Some (count_list style (list_of (scenarios_of inst t)
      (λ k. risk_of inst i s t (k + 1))))) None both in
      subst (λ (o : Option Value). IsOptionAt o (number_in s (at_number t (known is.Risk v)))) some
      (number_in_filled (tmax inst i) s (risks_of style inst i t) (at_number t (known is.Risk v))
      (few_starts limits style inst fits within spells texts i l) run.start run.among there)

  spelled_risks : (s t : ℕ) → is_allowed inst i s ≡ true → in_run inst i s t ≡ true
      → All (SpellsCount style) (list_of (scenarios_of inst t) (λ k. risk_of inst i s t (k + 1)))
  spelled_risks s t a r = counts_of style (scenarios_of inst t) (λ k. risk_of inst i s t (k + 1))
      (λ k m. risk_spelled limits style inst fits within spells texts i s t k l a r m)

  pub risks_are : (s t : ℕ) → is_allowed inst i s ≡ true → in_run inst i s t ≡ true
      → risks_at v s t ≡ list_of (scenarios_of inst t) (λ k. risk_of inst i s t (k + 1))
  risks_are s t a r =
      list_read style (list_of (scenarios_of inst t) (λ k. risk_of inst i s t (k + 1)))
      (number_in s (at_number t (known is.Risk v))) (spelled_risks s t a r) (risks_there s t a r)
      ∙ same (list_of (scenarios_of inst t) (λ k. risk_of inst i s t (k + 1)))
    where
      same : (zs : List ℤ) → map (λ z. z) zs ≡ zs
      same [] = refl
      same (z ∷ zs) = ap (λ ys. z ∷ ys) (same zs)

  pub soft_is : (s t : ℕ) → is_allowed inst i s ≡ true → in_run inst i s t ≡ true → soft_at v s t ≡ false ∷ []
  soft_is s t a r = ap (λ b. b ∷ []) (list_unrounded style
      (list_of (scenarios_of inst t) (λ k. risk_of inst i s t (k + 1)))
      (number_in s (at_number t (known is.Risk v))) (spelled_risks s t a r) (risks_there s t a r))
