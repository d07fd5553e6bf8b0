-- The tables of the tree of an instance's value are those of the instance: field by field.
use Rattle.std.proofs.Common.{◌≡◌, ℕ, ◌+◌, ◌-◌, ◌*◌, ◌<◌, true, false, List, [], ◌∷◌}
use Rattle.std.proofs.Common.{map, length, get_or, take, drop, Some, refl, sym, ◌∙◌, ap, subst, arith, ℤ, pos}
use Rattle.std.proofs.Common.{find, position, is_some, ◌+ℤ◌, ◌-ℤ◌}
use Rattle.std.specs.Prelude.{All, slice_index_or, ◌==◌}
use Rattle.std.specs.List.{AllZip}
use Rattle.std.proofs.lemmas.List.{get_or-map}
use Rattle.json_grammar.specs.Tree.{Tree, tree, Node}
use Rattle.json_grammar.specs.laws.Value.{Value, values_of, Field, field}
use Rattle.fixed_num.specs.Sums.{list_of}
use Rattle.instance_model.specs.declared.limits.Limits.{Limits}
use Rattle.instance_model.specs.declared.parts.Exclusion.{Exclusion}
use Rattle.instance_model.specs.Fitting.{IsFitting}
use Rattle.instance_model.specs.Tables.{Tables, scenarios_of, durations, is_allowed, in_run, risk_of, is_cell_of}
use Rattle.instance_model.specs.Tables.{upper_of, lower_of, in_season_of, exclusion_of, entry_place}
use Rattle.instance_model.specs.Tables.{scenarios_before, periods_before, risk_place}
use Rattle.instance_model.proofs.EntryLemmas.{IsRunning-from, entry_place_below, scenarios_before_rises}
use Rattle.instance_model.proofs.EntryLemmas.{scenarios_before_more, periods_before_rises, periods_before_more}
use Rattle.instance_shape.specs.declared.fault.Known.TheVariants as is
use Rattle.instance_shape.specs.LookUp as file
use Rattle.instance_shape.specs.LookUp.{known, entries, keys, elements, count_at, part_at, workload}
use Rattle.instance_shape.specs.FileTables.{lists_below, all_below, each_run, cell_of, cells_at, risks_at, soft_at}
use Rattle.instance_shape.specs.FileTables.{word}
use Rattle.instance_shape.specs.FileTables.{exclusion, number_among, in_season}
use Rattle.instance_writer.specs.text.Conditions.{SpellsNumbers, HasSpellableNames, IsWithin}
use Rattle.instance_writer.specs.text.Styles.{Style}
use Rattle.instance_writer.specs.text.Written.{object_of, under, named, whole_number, whole_list, count_list}
use Rattle.instance_writer.specs.text.Written.{resource_value}
use Rattle.instance_writer.specs.text.Written.{season_periods, season_value, exclusion_words, exclusion_value}
use Rattle.instance_writer.specs.text.Written.{intervention_value, instance_value}
use Rattle.instance_writer.proofs.TextCells.{one_cell, cells_listed}
use Rattle.instance_writer.proofs.TextListed.{lists_below_same, slice_of, singles_of}
use Rattle.instance_writer.proofs.TextLooked.{starts_are, cell_at, risks_are, soft_is}
use Rattle.instance_writer.proofs.TextParts.{root_fields}
use Rattle.instance_writer.proofs.TextPlacing.{IsAt, IsEntry, known_at, entries_at, elements_at, keys_at, zip_at}
use Rattle.instance_writer.proofs.TextRead.{whole_is, part_is, wholes_are, counts_are, word_is, all_below_is, map_is}
use Rattle.instance_writer.proofs.TextRead.{map-lists_below}
use Rattle.instance_writer.proofs.TextRows.{rows_are, flags_are, singles_all, keys_named, number_of_name, season_flag}
use Rattle.instance_writer.proofs.TextTabled.{run_lists, each_run_is, Grows, table_listed}
use Rattle.instance_writer.proofs.TextWhole.{few_periods, counts_of, upper_spelled, lower_spelled, periods_small}
use Rattle.instance_writer.proofs.TextWhole.{exclusion_in}

module _ (limits : Limits) (style : Style) (inst : Tables) (fits : IsFitting inst) (within : IsWithin limits inst)
    (spells : SpellsNumbers style inst) (texts : HasSpellableNames inst) (root : Tree)
    (here : IsAt (instance_value style inst) root) where
  resources : Value
  resources = object_of (named inst.resource_names (λ c. Some (resource_value style inst c)))

  seasons : Value
  seasons = object_of (named inst.season_names (λ q. Some (season_value inst q)))

  interventions : Value
  interventions = object_of (named inst.names (λ i. Some (intervention_value style inst i)))

  exclusions : Value
  exclusions = object_of (named inst.exclusion_names (λ e. Some (exclusion_value inst e)))

  fields : List Field
  fields = root_fields resources seasons interventions exclusions (whole_number inst.periods)
      (whole_list inst.scenarios) (Value.number (style.part inst.quantile)) (Value.number (style.part inst.alpha))

  root_is : IsAt (object_of fields) root
  unfolding fields resources seasons interventions exclusions
  root_is = here

  -- ---- numbers

  pub periods_are : file.periods root ≡ inst.periods
  unfolding fields
  periods_are = whole_is inst.periods (known is.T root) (few_periods limits style inst fits within spells texts)
      (known_at is.T fields (whole_number inst.periods) root refl root_is)

  pub alpha_is : part_at (known is.Alpha root) ≡ inst.alpha
  unfolding fields
  alpha_is = part_is style inst.alpha (known is.Alpha root) spells.alpha
      (known_at is.Alpha fields (Value.number (style.part inst.alpha)) root refl root_is)

  pub quantile_is : part_at (known is.Quantile root) ≡ inst.quantile
  unfolding fields
  quantile_is = part_is style inst.quantile (known is.Quantile root) spells.quantile
      (known_at is.Quantile fields (Value.number (style.part inst.quantile)) root refl root_is)

  pub scenarios_are : file.scenarios root ≡ inst.scenarios
  unfolding fields
  scenarios_are = wholes_are inst.scenarios (known is.ScenariosNumber root)
      (λ k d l. omega (arith, fits.scenarios_few k d l))
      (known_at is.ScenariosNumber fields (whole_list inst.scenarios) root refl root_is)

  -- ---- names

  pub resources_at : IsAt (object_of (named inst.resource_names (λ c. Some (resource_value style inst c))))
      (known is.Resources root)
  unfolding fields resources
  resources_at = known_at is.Resources fields resources root refl root_is

  seasons_at : IsAt (object_of (named inst.season_names (λ q. Some (season_value inst q)))) (known is.Seasons root)
  unfolding fields seasons
  seasons_at = known_at is.Seasons fields seasons root refl root_is

  pub interventions_at : IsAt (object_of (named inst.names (λ i. Some (intervention_value style inst i))))
      (known is.Interventions root)
  unfolding fields interventions
  interventions_at = known_at is.Interventions fields interventions root refl root_is

  pub exclusions_at : IsAt (object_of (named inst.exclusion_names (λ e. Some (exclusion_value inst e))))
      (known is.Exclusions root)
  unfolding fields exclusions
  exclusions_at = known_at is.Exclusions fields exclusions root refl root_is

  pub resource_names_are : keys (known is.Resources root) ≡ inst.resource_names
  resource_names_are = keys_at _ (known is.Resources root) resources_at ∙ keys_named inst.resource_names _

  pub season_names_are : keys (known is.Seasons root) ≡ inst.season_names
  season_names_are = keys_at _ (known is.Seasons root) seasons_at ∙ keys_named inst.season_names _

  pub names_are : keys (known is.Interventions root) ≡ inst.names
  names_are = keys_at _ (known is.Interventions root) interventions_at ∙ keys_named inst.names _

  pub exclusion_names_are : keys (known is.Exclusions root) ≡ inst.exclusion_names
  exclusion_names_are = keys_at _ (known is.Exclusions root) exclusions_at ∙ keys_named inst.exclusion_names _

  -- ---- bands

  upper_counts : ℕ → List ℤ
  upper_counts c = list_of inst.periods (λ k. upper_of inst c (k + 1))

  lower_counts : ℕ → List ℤ
  lower_counts c = list_of inst.periods (λ k. lower_of inst c (k + 1))

  upper_rows : lists_below (length inst.resource_names) upper_counts ≡ inst.upper
  unfolding upper_counts upper_of
  upper_rows = rows_are inst.upper (length inst.resource_names) inst.periods (λ c k. upper_of inst c (k + 1))
      fits.upper_each
      (λ c k l m. let place : c * inst.periods + (k + 1 - 1) ≡ c * inst.periods + k = omega arith in
      ap (λ p. get_or inst.upper p (pos 0)) place)

  lower_rows : lists_below (length inst.resource_names) lower_counts ≡ inst.lower
  unfolding lower_counts lower_of
  lower_rows = rows_are inst.lower (length inst.resource_names) inst.periods (λ c k. lower_of inst c (k + 1))
      fits.lower_each
      (λ c k l m. let place : c * inst.periods + (k + 1 - 1) ≡ c * inst.periods + k = omega arith in
      ap (λ p. get_or inst.lower p (pos 0)) place)

  pub upper_are : (slack : ℤ) → all_below (entries (known is.Resources root))
      (λ r. map (λ t. count_at t +ℤ slack) (elements (known is.Max r))) ≡ map (λ z. z +ℤ slack) inst.upper
  unfolding upper_counts
  upper_are slack =
      all_below_is (length inst.resource_names) (λ c. slice_index_or inst.resource_names c [])
      (resource_value style inst) (entries (known is.Resources root))
      (λ r. map (λ t. count_at t +ℤ slack) (elements (known is.Max r)))
      (λ c. map (λ z. z +ℤ slack) (upper_counts c))
      (entries_at _ (known is.Resources root) resources_at)
      (λ c t l a. counts_are style (λ z. z +ℤ slack) (upper_counts c) (known is.Max t)
      (counts_of style inst.periods (λ k. upper_of inst c (k + 1))
      (λ k m. upper_spelled limits style inst fits within spells texts c k l m))
      (known_at is.Max (under is.Max (count_list style (upper_counts c))
      ∷ under is.Min (count_list style (list_of inst.periods (λ k. lower_of inst c (k + 1)))) ∷ [])
      (count_list style (upper_counts c)) t refl a))
      ∙ sym (map-lists_below (λ z. z +ℤ slack) (length inst.resource_names) upper_counts)
      ∙ ap (map (λ z. z +ℤ slack)) upper_rows

  pub lower_are : (slack : ℤ) → all_below (entries (known is.Resources root))
      (λ r. map (λ t. count_at t -ℤ slack) (elements (known is.Min r))) ≡ map (λ z. z -ℤ slack) inst.lower
  unfolding lower_counts
  lower_are slack =
      all_below_is (length inst.resource_names) (λ c. slice_index_or inst.resource_names c [])
      (resource_value style inst) (entries (known is.Resources root))
      (λ r. map (λ t. count_at t -ℤ slack) (elements (known is.Min r)))
      (λ c. map (λ z. z -ℤ slack) (lower_counts c))
      (entries_at _ (known is.Resources root) resources_at)
      (λ c t l a. counts_are style (λ z. z -ℤ slack) (lower_counts c) (known is.Min t)
      (counts_of style inst.periods (λ k. lower_of inst c (k + 1))
      (λ k m. lower_spelled limits style inst fits within spells texts c k l m))
      (known_at is.Min (under is.Max (count_list style (list_of inst.periods (λ k. upper_of inst c (k + 1))))
      ∷ under is.Min (count_list style (lower_counts c)) ∷ [])
      (count_list style (lower_counts c)) t refl a))
      ∙ sym (map-lists_below (λ z. z -ℤ slack) (length inst.resource_names) lower_counts)
      ∙ ap (map (λ z. z -ℤ slack)) lower_rows

  -- ---- seasons

  season_flags : (q u : ℕ) (t : Tree) → u < inst.periods → IsAt (season_value inst q) t
      → in_season t u ≡ in_season_of inst q (u + 1) ∷ []
  season_flags q u t l a =
      ap (λ ns. is_some (position (λ n. n == u + 1) ns) ∷ [])
      (wholes_are (season_periods inst q) t (periods_small limits style inst fits within spells texts q) a)
      ∙ ap (λ b. b ∷ []) (season_flag (in_season_of inst q) inst.periods u l)

  pub in_season_are : all_below (entries (known is.Seasons root))
      (λ q. lists_below (file.periods root) (in_season q)) ≡ inst.in_season
  unfolding in_season_of
  in_season_are =
      all_below_is (length inst.season_names) (λ q. slice_index_or inst.season_names q []) (season_value inst)
      (entries (known is.Seasons root)) (λ q. lists_below (file.periods root) (in_season q))
      (λ q. lists_below inst.periods (λ k. in_season_of inst q (k + 1) ∷ []))
      (entries_at _ (known is.Seasons root) seasons_at)
      (λ q t l a. ap (λ n. lists_below n (in_season t)) periods_are
      ∙ lists_below_same inst.periods (in_season t) (λ k. in_season_of inst q (k + 1) ∷ [])
      (λ k m. season_flags q k t m a))
      ∙ flags_are inst.in_season (length inst.season_names) inst.periods (λ q k. in_season_of inst q (k + 1))
      fits.season_each
      (λ q k l m. let place : q * inst.periods + (k + 1 - 1) ≡ q * inst.periods + k = omega arith in
      ap (λ p. get_or inst.in_season p false) place)

  -- ---- exclusions

  pub word_at : (e : Exclusion) (t : Tree) (k : ℕ) → k < 3
      → IsAt (Value.list (values_of (map Value.text (exclusion_words inst e)))) t
      → word t k ≡ get_or (exclusion_words inst e) k []
  word_at e t k l a =
      let words = exclusion_words inst e in
      let there : IsAt (get_or (map Value.text words) k (Value.text [])) (get_or (elements t) k (tree 0 0 Node.null)) =
      zip_at IsAt (map Value.text words) (elements t) k (Value.text []) (tree 0 0 Node.null)
      (elements_at (map Value.text words) t a) l in
      let which : get_or (map Value.text words) k (Value.text []) ≡ Value.text (get_or words k []) =
      get_or-map Value.text words k [] (Value.text []) l in
      word_is (get_or words k []) (get_or (elements t) k (tree 0 0 Node.null))
      (subst (λ (v : Value). IsAt v (get_or (elements t) k (tree 0 0 Node.null))) which there)

  same_exclusion : (a b c : ℕ) (x : Exclusion) → a ≡ x.first → b ≡ x.second → c ≡ x.season
      → ◌≡◌ {A = Exclusion} (record { first = a; second = b; season = c }) x
  same_exclusion a b c x p q r =
      ap (λ (n : ℕ). record { first = n; second = b; season = c }) p
      ∙ ap (λ (n : ℕ). record { first = x.first; second = n; season = c }) q
      ∙ ap (λ (n : ℕ). record { first = x.first; second = x.second; season = n }) r

  exclusion_is : (e : ℕ) (t : Tree) → e < length inst.exclusion_names → IsAt (exclusion_value inst e) t
      → exclusion root t ≡ exclusion_of inst e
  exclusion_is e t l a =
      let x = exclusion_of inst e in
      let range = exclusion_in limits style inst fits within spells texts e l in
      same_exclusion _ _ _ x
      (ap (λ ns. number_among ns (word t 0)) names_are
      ∙ ap (number_among inst.names) (word_at x t 0 (omega arith) a)
      ∙ number_of_name inst.names x.first fits.names.apart range.0)
      (ap (λ ns. number_among ns (word t 1)) names_are
      ∙ ap (number_among inst.names) (word_at x t 1 (omega arith) a)
      ∙ number_of_name inst.names x.second fits.names.apart range.1)
      (ap (λ ns. number_among ns (word t 2)) season_names_are
      ∙ ap (number_among inst.season_names) (word_at x t 2 (omega arith) a)
      ∙ number_of_name inst.season_names x.season fits.seasons.apart range.2)

  pub excluded_are : map (λ e. exclusion root e.value) (entries (known is.Exclusions root)) ≡ inst.excluded
  unfolding exclusion_of
  excluded_are =
      map_is (length inst.exclusion_names) (λ e. slice_index_or inst.exclusion_names e []) (exclusion_value inst)
      (entries (known is.Exclusions root)) (exclusion root) (exclusion_of inst)
      (entries_at _ (known is.Exclusions root) exclusions_at) exclusion_is
      ∙ singles_all inst.excluded (length inst.exclusion_names) (exclusion_of inst) _ fits.excluded_each
      (λ k l. refl)

  -- ---- interventions

  pub intervention_entries : AllZip IsEntry (lists_below (length inst.names)
      (λ i. field (slice_index_or inst.names i []) (intervention_value style inst i) ∷ [])) (file.interventions root)
  intervention_entries = entries_at _ (known is.Interventions root) interventions_at

  pub delta_is : map (λ i. file.durations i.value) (file.interventions root) ≡ inst.delta
  unfolding durations
  delta_is =
      map_is (length inst.names) (λ i. slice_index_or inst.names i []) (intervention_value style inst)
      (file.interventions root) file.durations (durations inst) intervention_entries
      (λ i t l a. starts_are limits style inst fits within spells texts i l t a)
      ∙ singles_all inst.delta (length inst.names) (durations inst) [] fits.delta_each (λ k l. refl)

  run_cells : (i : ℕ) (v : Tree) (l : i < length inst.names) → IsAt (intervention_value style inst i) v
      → each_run root (cells_at root) v ≡ slice_index_or inst.loads i []
  run_cells i v l a =
      let cells = slice_index_or inst.loads i [] in
      each_run_is inst i root v (cells_at root)
      (λ s t. lists_below (length inst.resource_names) (λ c. one_cell (find (is_cell_of s t c) cells))) periods_are
      (starts_are limits style inst fits within spells texts i l v a)
      (λ s t b r.
      ap (λ names. lists_below (length names) (λ c. cell_of s t c (workload v (slice_index_or names c []) t s)))
      resource_names_are
      ∙ lists_below_same (length inst.resource_names)
      (λ c. cell_of s t c (workload v (slice_index_or inst.resource_names c []) t s))
      (λ c. one_cell (find (is_cell_of s t c) cells))
      (λ c m. cell_at limits style inst fits within spells texts i l v a c s t m b r))
      ∙ cells_listed inst i (length inst.resource_names) cells (fits.cells i l) refl

  pub loads_are : map (λ i. each_run root (cells_at root) i.value) (file.interventions root) ≡ inst.loads
  loads_are =
      map_is (length inst.names) (λ i. slice_index_or inst.names i []) (intervention_value style inst)
      (file.interventions root) (each_run root (cells_at root)) (λ i. slice_index_or inst.loads i [])
      intervention_entries run_cells
      ∙ singles_all inst.loads (length inst.names) (λ i. slice_index_or inst.loads i []) [] fits.loads_each
      (λ k l. refl)

  -- ---- risks and soft flags

  scenarios_grow : Grows inst (scenarios_before inst) (scenarios_of inst)
  scenarios_grow = record { grows = λ t from to. scenarios_before_more inst t fits.scenarios_each from to }

  risks_slice : (i s t : ℕ) → i < length inst.names → is_allowed inst i s ≡ true → in_run inst i s t ≡ true
      → list_of (scenarios_of inst t) (λ k. risk_of inst i s t (k + 1))
      ≡ take (scenarios_of inst t) (drop (entry_place inst (scenarios_before inst) i s t) inst.risks)
  unfolding risk_of risk_place
  risks_slice i s t l a r =
      let run = IsRunning-from inst i s t a r in
      let place = entry_place inst (scenarios_before inst) i s t in
      let below = entry_place_below inst (scenarios_before inst) i s t (scenarios_before_rises inst) l a run in
      let more = scenarios_before_more inst t fits.scenarios_each (omega (arith, run.start, run.from))
      (omega (arith, run.to, run.ends)) in
      slice_of inst.risks place (scenarios_of inst t) (λ k. risk_of inst i s t (k + 1))
      (omega (arith, below, more, fits.risks_each))
      (λ k m. let at : place + (k + 1 - 1) ≡ place + k = omega arith in ap (λ p. get_or inst.risks p (pos 0)) at)

  pub risks_table : all_below (file.interventions root) (each_run root risks_at) ≡ inst.risks
  risks_table =
      all_below_is (length inst.names) (λ i. slice_index_or inst.names i []) (intervention_value style inst)
      (file.interventions root) (each_run root risks_at)
      (λ i. run_lists inst i (λ s t. list_of (scenarios_of inst t) (λ k. risk_of inst i s t (k + 1))))
      intervention_entries
      (λ i v l a. each_run_is inst i root v risks_at _ periods_are
      (starts_are limits style inst fits within spells texts i l v a)
      (λ s t b r. risks_are limits style inst fits within spells texts i l v a s t b r))
      ∙ table_listed inst (scenarios_before inst) (scenarios_of inst) scenarios_grow inst.risks
      (λ i s t. list_of (scenarios_of inst t) (λ k. risk_of inst i s t (k + 1))) fits.risks_each risks_slice

  periods_grow : Grows inst periods_before (λ t. 1)
  periods_grow = record { grows = λ t from to. periods_before_more t from }

  soft_slice : All (λ b. b ≡ false) inst.soft → (i s t : ℕ) → i < length inst.names → is_allowed inst i s ≡ true
      → in_run inst i s t ≡ true
      → false ∷ [] ≡ take 1 (drop (entry_place inst periods_before i s t) inst.soft)
  soft_slice none i s t l a r =
      let run = IsRunning-from inst i s t a r in
      let place = entry_place inst periods_before i s t in
      let below = entry_place_below inst periods_before i s t periods_before_rises l a run in
      let more = periods_before_more t (omega (arith, run.start, run.from)) in
      singles_of inst.soft place 1 (λ k. false) false (omega (arith, below, more, fits.soft_each))
      (λ k m. sym (none (place + k) false (omega (arith, m, below, more, fits.soft_each))))

  pub soft_table : All (λ b. b ≡ false) inst.soft
      → all_below (file.interventions root) (each_run root soft_at) ≡ inst.soft
  soft_table none =
      all_below_is (length inst.names) (λ i. slice_index_or inst.names i []) (intervention_value style inst)
      (file.interventions root) (each_run root soft_at) (λ i. run_lists inst i (λ s t. false ∷ []))
      intervention_entries
      (λ i v l a. each_run_is inst i root v soft_at _ periods_are
      (starts_are limits style inst fits within spells texts i l v a)
      (λ s t b r. soft_is limits style inst fits within spells texts i l v a s t b r))
      ∙ table_listed inst periods_before (λ t. 1) periods_grow inst.soft (λ i s t. false ∷ []) fits.soft_each
      (soft_slice none)
