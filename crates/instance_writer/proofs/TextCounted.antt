-- The value of an instance has as many numbers under risk as the instance has
-- risks, and as many under workload as it has load cells.
use Rattle.std.proofs.Common.{◌≡◌, ℕ, ◌+◌, ◌-◌, ◌<◌, ◌≤◌, Bool, true, false, cond, ◌&&◌, [], ◌∷◌}
use Rattle.std.proofs.Common.{length, Option, Some, None, refl, sym, ◌∙◌, ap, arith, find, option_map, inl, inr}
use Rattle.std.specs.Prelude.{slice_index_or, ◌==◌, ◌⊎◌, nat_le, nat_lt}
use Rattle.std.specs.List.{filter}
use Rattle.std.proofs.lemmas.Bool.{and_from, le-leb, lt-leb, lt-ltb, le-ltb}
use Rattle.std.proofs.lemmas.List.Elements.{All-weaker}
use Rattle.json_grammar.specs.laws.Value.{Value}
use Rattle.fixed_num.specs.Sums.{list_of}
use Rattle.fixed_num.proofs.SumLemmas.{length-list_of}
use Rattle.instance_model.specs.declared.parts.LoadCell.{LoadCell}
use Rattle.instance_model.specs.Fitting.{IsFitting}
use Rattle.instance_model.specs.Naturals.{count_sum}
use Rattle.instance_model.specs.Tables.{Tables, scenarios_of, durations, tmax, is_allowed, in_run, risk_of, is_cell_of}
use Rattle.instance_model.specs.Tables.{delta_of, entries_at, entries_of, all_entries, scenarios_before}
use Rattle.instance_model.proofs.EntryLemmas.{IsRunning, count_sum_same, count_sum_more, is_allowed_facts}
use Rattle.instance_model.proofs.EntryLemmas.{entries_at-allowed, entries_at-refused, scenarios_before_more}
use Rattle.instance_shape.specs.declared.fault.Known.TheVariants as known
use Rattle.instance_shape.specs.declared.spot.Spot.{Spot}
use Rattle.instance_shape.specs.declared.spot.Spot.TheVariants as spot
use Rattle.instance_shape.specs.ShapeFaults.{is_risk, is_workload}
use Rattle.instance_shape.proofs.CountSums.{count_sum_swap, count_sum-zeros, column_grows}
use Rattle.instance_shape.proofs.ListsBelow.{length-lists_below}
use Rattle.instance_writer.specs.text.Styles.{Style}
use Rattle.instance_writer.specs.text.Written.{object_of, under, filled, numbered, named, whole_number, whole_list}
use Rattle.instance_writer.specs.text.Written.{count_number}
use Rattle.instance_writer.specs.text.Written.{count_list, resource_value, season_value, exclusion_value, load_value}
use Rattle.instance_writer.specs.text.Written.{workload_of}
use Rattle.instance_writer.specs.text.Written.{workload_value, risks_of, risk_value, intervention_value, instance_value}
use Rattle.instance_writer.proofs.TextCells.{one_cell, is_at, found_cell, period_cells, by_start, cells_run}
use Rattle.instance_writer.proofs.TextCells.{start_cells}
use Rattle.instance_writer.proofs.TextCells.{IsDuring}
use Rattle.instance_writer.proofs.TextNumbers.{value_numbers, option_numbers, fields_count}
use Rattle.instance_writer.proofs.TextNumbers.{filled_count, tokens_count, no_risk_numbers, no_workload_numbers}
use Rattle.instance_writer.proofs.TextTabled.{Grows, grown}

-- ---- sums

sum_add : (a d : ℕ) (f : ℕ → ℕ) → count_sum (a + d) f ≡ count_sum a f + count_sum d (λ j. f (a + j))
sum_add a d f = column_grows (λ t. count_sum t f) (λ j. f (a + j)) a d (λ j l. count_sum_more (a + j) f)

sum_none : (n : ℕ) (f : ℕ → ℕ) → ((k : ℕ) → k < n → f k ≡ 0) → count_sum n f ≡ 0
sum_none n f h = count_sum_same n f (λ k. 0) h ∙ count_sum-zeros n

-- a sum over the periods of a window, which begins behind `before` others
window : (n before d : ℕ) (f g : ℕ → ℕ) → before + d ≤ n → ((k : ℕ) → k < before → f k ≡ 0)
    → ((j : ℕ) → j < d → f (before + j) ≡ g j) → ((k : ℕ) → before + d ≤ k → f k ≡ 0)
    → count_sum n f ≡ count_sum d g
window n before d f g fits early here late =
    let whole : before + d + (n - (before + d)) ≡ n = omega arith in
    omega (
      arith,
      ap (λ m. count_sum m f) whole,
      sum_add (before + d) (n - (before + d)) f,
      sum_add before d f,
      sum_none before f early,
      count_sum_same d (λ j. f (before + j)) g here,
      sum_none (n - (before + d)) (λ j. f (before + d + j)) (λ k l. late (before + d + k) (omega arith)),
    )

-- ---- the whole value

-- numbers that stand under the interventions alone
root_numbers : (p : Spot → Bool) (a b c d e f g h : Value) → value_numbers p spot.Resources a ≡ 0
    → value_numbers p spot.Seasons b ≡ 0 → value_numbers p spot.Exclusions d ≡ 0 → value_numbers p spot.T e ≡ 0
    → value_numbers p spot.ScenariosNumber f ≡ 0 → value_numbers p spot.Quantile g ≡ 0
    → value_numbers p spot.Alpha h ≡ 0
    → value_numbers p spot.Root (object_of (under known.Resources a ∷ under known.Seasons b
    ∷ under known.Interventions c ∷ under known.Exclusions d ∷ under known.T e ∷ under known.ScenariosNumber f
    ∷ under known.Quantile g ∷ under known.Alpha h ∷ [])) ≡ value_numbers p spot.Interventions c
root_numbers p a b c d e f g h one two three four five six seven = omega arith

root_risks : (a b c d e f g h : Value) → value_numbers is_risk spot.Root (object_of (under known.Resources a
    ∷ under known.Seasons b ∷ under known.Interventions c ∷ under known.Exclusions d ∷ under known.T e
    ∷ under known.ScenariosNumber f ∷ under known.Quantile g ∷ under known.Alpha h ∷ []))
    ≡ value_numbers is_risk spot.Interventions c
root_risks a b c d e f g h =
    root_numbers is_risk a b c d e f g h (no_risk_numbers spot.Resources a refl) (no_risk_numbers spot.Seasons b refl)
    (no_risk_numbers spot.Exclusions d refl) (no_risk_numbers spot.T e refl)
    (no_risk_numbers spot.ScenariosNumber f refl) (no_risk_numbers spot.Quantile g refl)
    (no_risk_numbers spot.Alpha h refl)

root_workloads : (a b c d e f g h : Value) → value_numbers is_workload spot.Root (object_of (under known.Resources a
    ∷ under known.Seasons b ∷ under known.Interventions c ∷ under known.Exclusions d ∷ under known.T e
    ∷ under known.ScenariosNumber f ∷ under known.Quantile g ∷ under known.Alpha h ∷ []))
    ≡ value_numbers is_workload spot.Interventions c
root_workloads a b c d e f g h =
    root_numbers is_workload a b c d e f g h (no_workload_numbers spot.Resources a refl)
    (no_workload_numbers spot.Seasons b refl) (no_workload_numbers spot.Exclusions d refl)
    (no_workload_numbers spot.T e refl) (no_workload_numbers spot.ScenariosNumber f refl)
    (no_workload_numbers spot.Quantile g refl) (no_workload_numbers spot.Alpha h refl)

-- those of an intervention are those of its four values
four : (p : Spot → Bool) (a b c d : Value)
    → value_numbers p spot.Intervention (object_of (under known.Tmax a ∷ under known.Delta b ∷ under known.Workload c
    ∷ under known.Risk d ∷ []))
    ≡ value_numbers p spot.Tmax a + (value_numbers p spot.Delta b + (value_numbers p spot.Workload c
    + (value_numbers p spot.Risk d + 0)))
four p a b c d = refl

module _ (style : Style) (inst : Tables) (fits : IsFitting inst) where
  interventions_count : (p : Spot → Bool) → value_numbers p spot.Interventions (object_of (named inst.names
      (λ i. Some (intervention_value style inst i))))
      ≡ count_sum (length inst.names) (λ i. value_numbers p spot.Intervention (intervention_value style inst i))
  interventions_count p = fields_count p spot.Interventions spot.Intervention (length inst.names)
      (λ i. slice_index_or inst.names i []) (λ i. Some (intervention_value style inst i)) (λ key. refl)

  -- ---- risks

  risks_count : (i t s : ℕ) (b : Bool) → is_allowed inst i s && in_run inst i s t ≡ b
      → option_numbers is_risk spot.RiskStart (cond b (Some (count_list style (list_of (scenarios_of inst t)
      (λ k. risk_of inst i s t (k + 1))))) None) ≡ cond b (scenarios_of inst t) 0
  risks_count i t s false h = refl
  risks_count i t s true h =
      tokens_count is_risk spot.RiskStart spot.RiskNumber style.count
      (list_of (scenarios_of inst t) (λ k. risk_of inst i s t (k + 1))) 0 (λ m. refl) refl
      ∙ length-list_of (scenarios_of inst t) (λ k. risk_of inst i s t (k + 1))

  -- how many risks stand at one start in one period
  at_run : ℕ → ℕ → ℕ → ℕ
  at_run i t s = cond (is_allowed inst i s && in_run inst i s t) (scenarios_of inst t) 0

  risk_count : (i : ℕ) → value_numbers is_risk spot.Risk (risk_value style inst i)
      ≡ count_sum inst.periods (λ k. count_sum (tmax inst i) (λ m. at_run i (k + 1) (m + 1)))
  unfolding at_run
  risk_count i =
      fields_count is_risk spot.Risk spot.RiskPeriod inst.periods _
      (λ k. filled (numbered (tmax inst i) (risks_of style inst i (k + 1)))) (λ key. refl)
      ∙ count_sum_same inst.periods _ _ (λ k l.
      filled_count is_risk spot.RiskPeriod (numbered (tmax inst i) (risks_of style inst i (k + 1)))
      ∙ fields_count is_risk spot.RiskPeriod spot.RiskStart (tmax inst i) _
      (λ m. risks_of style inst i (k + 1) (m + 1)) (λ key. refl)
      ∙ count_sum_same (tmax inst i) _ _ (λ m n.
      risks_count i (k + 1) (m + 1) (is_allowed inst i (m + 1) && in_run inst i (m + 1) (k + 1)) refl))

  outside : (i s t : ℕ) → (t < s) ⊎ (s + delta_of inst i s ≤ t) → in_run inst i s t ≡ false
  unfolding in_run
  outside i s t (inl l) = ap (λ b. b && nat_lt t (s + delta_of inst i s)) (lt-leb s t l)
  outside i s t (inr l) =
      ap (λ b. nat_le s t && b) (le-ltb t (s + delta_of inst i s) l) ∙ none (nat_le s t)
    where
      none : (b : Bool) → b && false ≡ false
      none true = refl
      none false = refl

  inside : (i s t : ℕ) → s ≤ t → t < s + delta_of inst i s → in_run inst i s t ≡ true
  unfolding in_run
  inside i s t low high = and_from _ _ (le-leb s t low) (lt-ltb t (s + delta_of inst i s) high)

  scenarios_grow : Grows inst (scenarios_before inst) (scenarios_of inst)
  scenarios_grow = record { grows = λ t from to. scenarios_before_more inst t fits.scenarios_each from to }

  -- at one start over all periods
  start_count : (i m : ℕ) (b : Bool) → is_allowed inst i (m + 1) ≡ b
      → count_sum inst.periods (λ k. cond (b && in_run inst i (m + 1) (k + 1)) (scenarios_of inst (k + 1)) 0)
      ≡ entries_at inst (scenarios_before inst) i (m + 1)
  start_count i m false a =
      sum_none inst.periods (λ k. 0) (λ k l. refl) ∙ sym (entries_at-refused inst (scenarios_before inst) i (m + 1) a)
  start_count i m true a =
      let s = m + 1 in
      let d = delta_of inst i s in
      let ends = (is_allowed_facts inst i s a).2 in
      window inst.periods m d (λ k. cond (in_run inst i s (k + 1)) (scenarios_of inst (k + 1)) 0)
      (λ j. scenarios_of inst (s + j)) (omega (arith, ends))
      (λ k l. ap (λ b. cond b (scenarios_of inst (k + 1)) 0) (outside i s (k + 1) (inl (omega arith))))
      (λ j l.
      let same : m + j + 1 ≡ s + j = omega arith in
      ap (λ b. cond b (scenarios_of inst (m + j + 1)) 0) (inside i s (m + j + 1) (omega arith) (omega arith))
      ∙ ap (scenarios_of inst) same)
      (λ k l. ap (λ b. cond b (scenarios_of inst (k + 1)) 0) (outside i s (k + 1) (inr (omega arith))))
      ∙ omega (
        arith,
        grown inst (scenarios_before inst) (scenarios_of inst) scenarios_grow inst.risks i s d a (omega arith),
        entries_at-allowed inst (scenarios_before inst) i s a,
      )

  risk_entries : (i : ℕ) → value_numbers is_risk spot.Risk (risk_value style inst i)
      ≡ entries_of inst (scenarios_before inst) i
  unfolding at_run entries_of
  risk_entries i =
      risk_count i
      ∙ count_sum_swap inst.periods (tmax inst i) (λ k m. at_run i (k + 1) (m + 1))
      ∙ count_sum_same (tmax inst i) _ _ (λ m l. start_count i m (is_allowed inst i (m + 1)) refl)

  intervention_risks : (i : ℕ) → value_numbers is_risk spot.Intervention (intervention_value style inst i)
      ≡ entries_of inst (scenarios_before inst) i
  intervention_risks i =
      let a : value_numbers is_risk spot.Tmax (whole_number (tmax inst i)) ≡ 0 =
      no_risk_numbers spot.Tmax (whole_number (tmax inst i)) refl in
      let b : value_numbers is_risk spot.Delta (whole_list (durations inst i)) ≡ 0 =
      no_risk_numbers spot.Delta (whole_list (durations inst i)) refl in
      let c : value_numbers is_risk spot.Workload (workload_value style inst i) ≡ 0 =
      no_risk_numbers spot.Workload (workload_value style inst i) refl in
      four is_risk (whole_number (tmax inst i)) (whole_list (durations inst i)) (workload_value style inst i)
      (risk_value style inst i) ∙ omega (arith, a, b, c, risk_entries i)

  -- as many as the instance has risks
  pub risks_of_value : value_numbers is_risk spot.Root (instance_value style inst) ≡ length inst.risks
  unfolding all_entries
  risks_of_value =
      root_risks (object_of (named inst.resource_names (λ c. Some (resource_value style inst c))))
      (object_of (named inst.season_names (λ q. Some (season_value inst q))))
      (object_of (named inst.names (λ i. Some (intervention_value style inst i))))
      (object_of (named inst.exclusion_names (λ e. Some (exclusion_value inst e)))) (whole_number inst.periods)
      (whole_list inst.scenarios) (Value.number (style.part inst.quantile)) (Value.number (style.part inst.alpha))
      ∙ interventions_count is_risk
      ∙ count_sum_same (length inst.names) _ _ (λ i l. intervention_risks i)
      ∙ sym fits.risks_each

  -- ---- load cells

  load_count : (o : Option LoadCell) → option_numbers is_workload spot.WorkloadNumber
      (option_map (λ (cell : LoadCell). count_number style cell.load) o) ≡ length (one_cell o)
  load_count None = refl
  load_count (Some x) = refl

  -- how many cells an intervention has of a resource, a period and a start
  cells_of : ℕ → ℕ → ℕ → ℕ → ℕ
  cells_of i c t s = length (one_cell (find (is_cell_of s t c) (slice_index_or inst.loads i [])))

  workload_count : (i : ℕ) → value_numbers is_workload spot.Workload (workload_value style inst i)
      ≡ count_sum (length inst.resource_names) (λ c. count_sum inst.periods (λ k. count_sum (tmax inst i)
      (λ m. cells_of i c (k + 1) (m + 1))))
  unfolding cells_of
  workload_count i =
      fields_count is_workload spot.Workload spot.WorkloadResource (length inst.resource_names) _
      (workload_of style inst i) (λ key. refl)
      ∙ count_sum_same (length inst.resource_names) _ _ (λ c l.
      filled_count is_workload spot.WorkloadResource (numbered inst.periods (λ t. filled (numbered (tmax inst i)
      (λ s. load_value style (slice_index_or inst.loads i []) c t s))))
      ∙ fields_count is_workload spot.WorkloadResource spot.WorkloadPeriod inst.periods _
      (λ k. filled (numbered (tmax inst i) (λ s. load_value style (slice_index_or inst.loads i []) c (k + 1) s)))
      (λ key. refl)
      ∙ count_sum_same inst.periods _ _ (λ k n.
      filled_count is_workload spot.WorkloadPeriod
      (numbered (tmax inst i) (λ s. load_value style (slice_index_or inst.loads i []) c (k + 1) s))
      ∙ fields_count is_workload spot.WorkloadPeriod spot.WorkloadNumber (tmax inst i) _
      (λ m. load_value style (slice_index_or inst.loads i []) c (k + 1) (m + 1)) (λ key. refl)
      ∙ count_sum_same (tmax inst i) _ _
      (λ m q. load_count (find (is_cell_of (m + 1) (k + 1) c) (slice_index_or inst.loads i [])))))

  -- those of one start and period
  period_count : (i s t : ℕ) → i < length inst.names
      → count_sum (length inst.resource_names) (λ c. cells_of i c t s)
      ≡ length (filter (is_at s t) (slice_index_or inst.loads i []))
  unfolding cells_of
  period_count i s t l =
      let cells = slice_index_or inst.loads i [] in
      let a = fits.cells i l in
      count_sum_same (length inst.resource_names) _ (λ c. length (filter (is_cell_of s t c) cells))
      (λ c m. ap length (sym (found_cell s t c cells a.ordered)))
      ∙ sym (length-lists_below (length inst.resource_names) (λ c. filter (is_cell_of s t c) cells))
      ∙ ap length (period_cells s t (length inst.resource_names) cells a.ordered a.resources)

  -- those of one start
  cells_at_start : (i s : ℕ) → i < length inst.names
      → count_sum inst.periods (λ k. length (filter (is_at s (k + 1)) (slice_index_or inst.loads i [])))
      ≡ length (filter (λ x. x.start == s) (slice_index_or inst.loads i []))
  cells_at_start i s l =
      let cells = slice_index_or inst.loads i [] in
      let a = fits.cells i l in
      count_sum_same inst.periods _ (λ k. length (filter (is_at s (1 + k)) cells))
      (λ k m. let same : k + 1 ≡ 1 + k = omega arith in ap (λ t. length (filter (is_at s t) cells)) same)
      ∙ sym (length-lists_below inst.periods (λ k. filter (is_at s (1 + k)) cells))
      ∙ ap length (start_cells s 1 inst.periods cells a.ordered
      (All-weaker (λ x. IsRunning inst i x.start x.period) (IsDuring s 1 inst.periods)
      (λ x r e. (omega (arith, r.start, r.from), omega (arith, r.to, r.ends))) cells (cells_run inst i cells a)))

  workload_entries : (i : ℕ) → i < length inst.names
      → value_numbers is_workload spot.Workload (workload_value style inst i)
      ≡ length (slice_index_or inst.loads i [])
  workload_entries i l =
      let cells = slice_index_or inst.loads i [] in
      let a = fits.cells i l in
      let r = length inst.resource_names in
      workload_count i
      ∙ count_sum_swap r inst.periods (λ c k. count_sum (tmax inst i) (λ m. cells_of i c (k + 1) (m + 1)))
      ∙ count_sum_same inst.periods _
      (λ k. count_sum (tmax inst i) (λ m. length (filter (is_at (m + 1) (k + 1)) cells)))
      (λ k n. count_sum_swap r (tmax inst i) (λ c m. cells_of i c (k + 1) (m + 1))
      ∙ count_sum_same (tmax inst i) _ _ (λ m q. period_count i (m + 1) (k + 1) l))
      ∙ count_sum_swap inst.periods (tmax inst i) (λ k m. length (filter (is_at (m + 1) (k + 1)) cells))
      ∙ count_sum_same (tmax inst i) _ (λ m. length (filter (λ x. x.start == m + 1) cells))
      (λ m q. cells_at_start i (m + 1) l)
      ∙ sym (length-lists_below (tmax inst i) (λ m. filter (λ x. x.start == m + 1) cells))
      ∙ ap length (by_start (tmax inst i) cells a.ordered
      (All-weaker (λ x. IsRunning inst i x.start x.period) (λ x. (1 ≤ x.start) × (x.start ≤ tmax inst i))
      (λ x run. (run.start, run.among)) cells (cells_run inst i cells a)))

  intervention_loads : (i : ℕ) → i < length inst.names
      → value_numbers is_workload spot.Intervention (intervention_value style inst i)
      ≡ length (slice_index_or inst.loads i [])
  intervention_loads i l =
      let a : value_numbers is_workload spot.Tmax (whole_number (tmax inst i)) ≡ 0 =
      no_workload_numbers spot.Tmax (whole_number (tmax inst i)) refl in
      let b : value_numbers is_workload spot.Delta (whole_list (durations inst i)) ≡ 0 =
      no_workload_numbers spot.Delta (whole_list (durations inst i)) refl in
      let c : value_numbers is_workload spot.Risk (risk_value style inst i) ≡ 0 =
      no_workload_numbers spot.Risk (risk_value style inst i) refl in
      four is_workload (whole_number (tmax inst i)) (whole_list (durations inst i)) (workload_value style inst i)
      (risk_value style inst i) ∙ omega (arith, a, b, c, workload_entries i l)

  -- as many as the instance has load cells
  pub loads_of_value : value_numbers is_workload spot.Root (instance_value style inst)
      ≡ count_sum (length inst.names) (λ i. length (slice_index_or inst.loads i []))
  loads_of_value =
      root_workloads (object_of (named inst.resource_names (λ c. Some (resource_value style inst c))))
      (object_of (named inst.season_names (λ q. Some (season_value inst q))))
      (object_of (named inst.names (λ i. Some (intervention_value style inst i))))
      (object_of (named inst.exclusion_names (λ e. Some (exclusion_value inst e)))) (whole_number inst.periods)
      (whole_list inst.scenarios) (Value.number (style.part inst.quantile)) (Value.number (style.part inst.alpha))
      ∙ interventions_count is_workload
      ∙ count_sum_same (length inst.names) _ _ intervention_loads
