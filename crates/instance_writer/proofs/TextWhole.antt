-- The value of an instance is fine: it is spelled, nested at most 6 deep, and has no fault of shape.
use Rattle.std.proofs.Common.{◌≡◌, ℕ, ◌+◌, ◌-◌, ◌*◌, ◌<◌, ◌≤◌, Bool, true, false, cond, ◌&&◌, List, [], ◌∷◌}
use Rattle.std.proofs.Common.{map, length, Option, Some, None, refl, sym, subst, arith, ℤ, pos, find}
use Rattle.std.specs.Prelude.{All, slice_index_or, option_map, nat_lt}
use Rattle.std.proofs.lemmas.Bool.{lt-ltb, and_parts, cond-true}
use Rattle.std.proofs.lemmas.List.Elements.{All-nil, All-cons, All-head, All-tail, All-get_or}
use Rattle.std.proofs.lemmas.List.Elements.{All-from_get_or, All-from_recursion}
use Rattle.std.proofs.Math.Nat.{mul-le-mul_right}
use Rattle.json_grammar.specs.laws.Value.{Value, values_of}
use Rattle.json_grammar.specs.laws.Spellable.{IsSpellableText}
use Rattle.fixed_num.specs.Sums.{list_of}
use Rattle.fixed_num.proofs.SumLemmas.{get_or-list_of, length-list_of}
use Rattle.instance_model.specs.declared.limits.Limits.{Limits}
use Rattle.instance_model.specs.declared.parts.Exclusion.{Exclusion}
use Rattle.instance_model.specs.declared.parts.LoadCell.{LoadCell}
use Rattle.instance_model.specs.Fitting.{IsFitting, IsName, AreNames}
use Rattle.instance_model.specs.Limits.{standard_limits}
use Rattle.instance_model.specs.Tables.{Tables, scenarios_of, durations, tmax, is_allowed, in_run, risk_of, is_cell_of}
use Rattle.instance_model.specs.Tables.{upper_of, lower_of, in_season_of, exclusion_of, risk_place}
use Rattle.instance_model.proofs.EntryLemmas.{IsRunning-from}
use Rattle.instance_model.proofs.FitLemmas.{tmax_small, risk_place_below}
use Rattle.instance_shape.specs.declared.spot.Spot.TheVariants as spot
use Rattle.instance_shape.proofs.ListsBelow.{all_lists, all_cond}
use Rattle.instance_writer.specs.text.Conditions.{SpellsCount, SpellsNumbers, HasSpellableNames, IsWithin}
use Rattle.instance_writer.specs.text.Styles.{Style}
use Rattle.instance_writer.specs.text.Written.{object_of, filled, numbered, named, whole_number, whole_list}
use Rattle.instance_writer.specs.text.Written.{count_number}
use Rattle.instance_writer.specs.text.Written.{count_list, resource_value, season_periods, season_value}
use Rattle.instance_writer.specs.text.Written.{exclusion_words}
use Rattle.instance_writer.specs.text.Written.{exclusion_value, load_value, workload_of, workload_value, risks_of}
use Rattle.instance_writer.specs.text.Written.{risk_value}
use Rattle.instance_writer.specs.text.Written.{intervention_value, instance_value}
use Rattle.instance_writer.proofs.TextFine.{IsFine, list_fine}
use Rattle.instance_writer.proofs.TextKeys.{numbered_fine, filled_fine, named_fine}
use Rattle.instance_writer.proofs.TextLeaves.{max_fine, min_fine, risks_fine, load_fine, season_fine, delta_fine}
use Rattle.instance_writer.proofs.TextLeaves.{tmax_fine}
use Rattle.instance_writer.proofs.TextLeaves.{periods_fine, scenarios_fine, quantile_fine, alpha_fine, word_fine}
use Rattle.instance_writer.proofs.TextParts.{risk_takes, risk_period_takes, resource_takes, period_takes}
use Rattle.instance_writer.proofs.TextParts.{resources_take}
use Rattle.instance_writer.proofs.TextParts.{seasons_take, interventions_take, exclusions_take, workload_takes}
use Rattle.instance_writer.proofs.TextParts.{resource_fine, intervention_fine, root_fine}

-- ---- counts

pub counts_of : (style : Style) (n : ℕ) (f : ℕ → ℤ) → ((k : ℕ) → k < n → SpellsCount style (f k))
    → All (SpellsCount style) (list_of n f)
counts_of style n f h = All-from_get_or (SpellsCount style) (list_of n f) (pos 0)
    (λ i l. let m : i < n = omega (arith, l, length-list_of n f) in
    subst (SpellsCount style) (sym (get_or-list_of n f i m)) (h i m))

-- a place among those of some rows of n each
pub place_in_row : (c r k n : ℕ) → c < r → k < n → c * n + k < r * n
place_in_row c r k n h l =
    let whole : (c + 1) * n ≤ r * n = mul-le-mul_right n (omega arith) in
    omega (arith, whole)

module _ (limits : Limits) (style : Style) (inst : Tables) (fits : IsFitting inst) (within : IsWithin limits inst)
    (spells : SpellsNumbers style inst) (texts : HasSpellableNames inst) where
  pub few_periods : inst.periods < 1_000_000_000
  few_periods = omega (arith, fits.few_periods)

  -- ---- resources

  pub upper_spelled : (c k : ℕ) → c < length inst.resource_names → k < inst.periods
      → SpellsCount style (upper_of inst c (k + 1))
  unfolding upper_of
  upper_spelled c k h l = All-get_or (SpellsCount style) inst.upper (c * inst.periods + (k + 1 - 1)) (pos 0)
      (omega (arith, place_in_row c (length inst.resource_names) k inst.periods h l, fits.upper_each)) spells.upper

  pub lower_spelled : (c k : ℕ) → c < length inst.resource_names → k < inst.periods
      → SpellsCount style (lower_of inst c (k + 1))
  unfolding lower_of
  lower_spelled c k h l = All-get_or (SpellsCount style) inst.lower (c * inst.periods + (k + 1 - 1)) (pos 0)
      (omega (arith, place_in_row c (length inst.resource_names) k inst.periods h l, fits.lower_each)) spells.lower

  bands_fine : (c : ℕ) → c < length inst.resource_names → IsFine limits 4 spot.Resource (resource_value style inst c)
  bands_fine c l =
      let upper = λ (k : ℕ). upper_of inst c (k + 1) in
      let lower = λ (k : ℕ). lower_of inst c (k + 1) in
      resource_fine limits 3 (count_list style (list_of inst.periods upper))
      (count_list style (list_of inst.periods lower))
      (max_fine limits 2 style (list_of inst.periods upper)
      (counts_of style inst.periods upper (λ k m. upper_spelled c k l m)))
      (min_fine limits 2 style (list_of inst.periods lower)
      (counts_of style inst.periods lower (λ k m. lower_spelled c k l m)))

  same_some : (a b : Value) → ◌≡◌ {A = Option Value} (Some a) (Some b) → a ≡ b
  same_some a b e = cc

  resources_fine : IsFine limits 5 spot.Resources
      (object_of (named inst.resource_names (λ c. Some (resource_value style inst c))))
  resources_fine = named_fine limits 4 spot.Resources spot.Resource standard_limits.resources inst.resource_names
      (λ c. Some (resource_value style inst c))
      (resources_take limits (length inst.resource_names) within.resources) fits.resources texts.resources (λ key. refl)
      (λ c v l e. subst (λ (x : Value). IsFine limits 4 spot.Resource x) (same_some (resource_value style inst c) v e)
      (bands_fine c l))

  -- ---- seasons

  pub periods_small : (q : ℕ) → All (λ m. m < 1_000_000_000) (season_periods inst q)
  periods_small q =
      all_lists (λ m. m < 1_000_000_000) inst.periods (λ k. cond (in_season_of inst q (k + 1)) ((k + 1) ∷ []) [])
      (λ k l. all_cond (λ m. m < 1_000_000_000) (in_season_of inst q (k + 1)) ((k + 1) ∷ [])
      (λ e. All-cons (λ m. m < 1_000_000_000) (k + 1) [] (omega (arith, l, few_periods))
      (All-nil (λ m. m < 1_000_000_000))))

  seasons_fine : IsFine limits 5 spot.Seasons (object_of (named inst.season_names (λ q. Some (season_value inst q))))
  seasons_fine = named_fine limits 4 spot.Seasons spot.Season standard_limits.seasons inst.season_names
      (λ q. Some (season_value inst q)) (seasons_take limits (length inst.season_names) within.seasons) fits.seasons
      texts.seasons (λ key. refl)
      (λ q v l e. subst (λ (x : Value). IsFine limits 4 spot.Season x) (same_some (season_value inst q) v e)
      (season_fine limits 3 (season_periods inst q) (periods_small q)))

  -- ---- exclusions

  one_word : (limit : ℕ) (names : List (List ℕ)) (i : ℕ) → AreNames limit names → All IsSpellableText names
      → i < length names → IsFine limits 3 spot.Word (Value.text (slice_index_or names i []))
  one_word limit names i a t l = word_fine limits 3 (slice_index_or names i [])
      (All-get_or IsName names i [] l a.shaped) (All-get_or IsSpellableText names i [] l t)

  words_fine : (e : Exclusion) → (e.first < length inst.names) × (e.second < length inst.names)
      × (e.season < length inst.season_names)
      → IsFine limits 4 spot.Exclusion (Value.list (values_of (map Value.text (exclusion_words inst e))))
  words_fine e h =
      list_fine limits 3 spot.Exclusion spot.Word (map Value.text (exclusion_words inst e)) (λ at end k. refl) refl
      (λ m l. cond-true (nat_lt m 3) spot.Word spot.Beyond (lt-ltb m 3 l))
      (All-from_recursion (IsFine limits 3 spot.Word) (map Value.text (exclusion_words inst e)) (
        one_word standard_limits.interventions inst.names e.first fits.names texts.interventions h.0,
        (
          one_word standard_limits.interventions inst.names e.second fits.names texts.interventions h.1,
          (one_word standard_limits.seasons inst.season_names e.season fits.seasons texts.seasons h.2, tt),
        ),
      ))

  pub exclusion_in : (e : ℕ) → e < length inst.exclusion_names → ((exclusion_of inst e).first < length inst.names)
      × ((exclusion_of inst e).second < length inst.names) × ((exclusion_of inst e).season < length inst.season_names)
  unfolding exclusion_of
  exclusion_in e l = All-get_or (λ (x : Exclusion). (x.first < length inst.names) × (x.second < length inst.names)
      × (x.season < length inst.season_names)) inst.excluded e _ (omega (arith, l, fits.excluded_each)) fits.excluded

  exclusions_fine : IsFine limits 5 spot.Exclusions
      (object_of (named inst.exclusion_names (λ e. Some (exclusion_value inst e))))
  exclusions_fine = named_fine limits 4 spot.Exclusions spot.Exclusion standard_limits.exclusions inst.exclusion_names
      (λ e. Some (exclusion_value inst e)) (exclusions_take limits (length inst.exclusion_names) within.exclusions)
      fits.exclusions texts.exclusions (λ key. refl)
      (λ e v l q. subst (λ (x : Value). IsFine limits 4 spot.Exclusion x) (same_some (exclusion_value inst e) v q)
      (words_fine (exclusion_of inst e) (exclusion_in e l)))

  -- ---- workloads

  pub found_in : (P : LoadCell → Type 0) (p : LoadCell → Bool) (cells : List LoadCell) (x : LoadCell) → All P cells
      → find p cells ≡ Some x → P x
  found_in P p [] x a e = cc
  found_in P p (y ∷ cells) x a e = by (p y) e (found_in P p cells x (All-tail P y cells a))
    where
      by : (b : Bool) → cond b (Some y) (find p cells) ≡ Some x → (find p cells ≡ Some x → P x) → P x
      by true e r = let same : y ≡ x = cc in subst P same (All-head P y cells a)
      by false e r = r e

  one_load : (o : Option LoadCell) (v : Value) → ((x : LoadCell) → o ≡ Some x → SpellsCount style x.load)
      → option_map (λ (cell : LoadCell). count_number style cell.load) o ≡ Some v
      → IsFine limits 0 spot.WorkloadNumber v
  one_load None v h e = cc
  one_load (Some x) v h e =
      subst (λ (y : Value). IsFine limits 0 spot.WorkloadNumber y) (same_some (count_number style x.load) v e)
      (load_fine limits 0 style x.load (h x refl))

  loads_fine : (i c t s : ℕ) (v : Value) → i < length inst.names
      → load_value style (slice_index_or inst.loads i []) c t s ≡ Some v → IsFine limits 0 spot.WorkloadNumber v
  loads_fine i c t s v l e =
      let cells = slice_index_or inst.loads i [] in
      one_load (find (is_cell_of s t c) cells) v
      (λ x q. found_in (λ cell. SpellsCount style cell.load) (is_cell_of s t c) cells x (spells.loads i l) q) e

  pub few_starts : (i : ℕ) → i < length inst.names → tmax inst i < 1_000_000_000
  few_starts i l = omega (arith, few_periods, tmax_small inst i fits l)

  workloads_fine : (i : ℕ) → i < length inst.names → IsFine limits 3 spot.Workload (workload_value style inst i)
  workloads_fine i l = named_fine limits 2 spot.Workload spot.WorkloadResource standard_limits.resources
      inst.resource_names (workload_of style inst i) (workload_takes limits (length inst.resource_names)) fits.resources
      texts.resources (λ key. refl)
      (λ c v m e. filled_fine limits 1 spot.WorkloadResource spot.WorkloadPeriod inst.periods
      (λ t. filled (numbered (tmax inst i) (λ s. load_value style (slice_index_or inst.loads i []) c t s))) v
      (resource_takes limits) few_periods (λ key. refl)
      (λ t w f. filled_fine limits 0 spot.WorkloadPeriod spot.WorkloadNumber (tmax inst i)
      (λ s. load_value style (slice_index_or inst.loads i []) c t s) w (period_takes limits) (few_starts i l)
      (λ key. refl) (λ s x g. loads_fine i c t s x l g) f) e)

  -- ---- risks

  pub risk_spelled : (i s t k : ℕ) → i < length inst.names → is_allowed inst i s ≡ true → in_run inst i s t ≡ true
      → k < scenarios_of inst t → SpellsCount style (risk_of inst i s t (k + 1))
  unfolding risk_of
  risk_spelled i s t k l a r m = All-get_or (SpellsCount style) inst.risks (risk_place inst i s t (k + 1)) (pos 0)
      (risk_place_below inst i s t (k + 1) fits l a (IsRunning-from inst i s t a r) (omega arith) (omega arith))
      spells.risks

  risks_at_fine : (i t s : ℕ) (v : Value) (b : Bool) → i < length inst.names
      → is_allowed inst i s && in_run inst i s t ≡ b → cond b (Some (count_list style (list_of (scenarios_of inst t)
      (λ k. risk_of inst i s t (k + 1))))) None ≡ Some v → IsFine limits 1 spot.RiskStart v
  risks_at_fine i t s v false l h e = cc
  risks_at_fine i t s v true l h e =
      let both = and_parts (is_allowed inst i s) (in_run inst i s t) h in
      let risks = λ (k : ℕ). risk_of inst i s t (k + 1) in
      subst (λ (x : Value). IsFine limits 1 spot.RiskStart x)
      (same_some (count_list style (list_of (scenarios_of inst t) risks)) v e)
      (risks_fine limits 0 style (list_of (scenarios_of inst t) risks)
      (counts_of style (scenarios_of inst t) risks (λ k m. risk_spelled i s t k l both.0 both.1 m)))

  risk_fine : (i : ℕ) → i < length inst.names → IsFine limits 3 spot.Risk (risk_value style inst i)
  risk_fine i l = numbered_fine limits 2 spot.Risk spot.RiskPeriod inst.periods
      (λ t. filled (numbered (tmax inst i) (risks_of style inst i t))) (risk_takes limits) few_periods (λ key. refl)
      (λ t v e. filled_fine limits 1 spot.RiskPeriod spot.RiskStart (tmax inst i) (risks_of style inst i t) v
      (risk_period_takes limits) (few_starts i l) (λ key. refl)
      (λ s w f. risks_at_fine i t s w (is_allowed inst i s && in_run inst i s t) l refl f) e)

  -- ---- interventions, and all of it

  pub durations_small : (i : ℕ) → i < length inst.names → All (λ m. m < 1_000_000_000) (durations inst i)
  unfolding durations
  durations_small i l = All-get_or (λ ds. All (λ m. m < 1_000_000_000) ds) inst.delta i []
      (omega (arith, l, fits.delta_each)) fits.delta_small

  interventions_fine : IsFine limits 5 spot.Interventions
      (object_of (named inst.names (λ i. Some (intervention_value style inst i))))
  interventions_fine = named_fine limits 4 spot.Interventions spot.Intervention standard_limits.interventions inst.names
      (λ i. Some (intervention_value style inst i)) (interventions_take limits (length inst.names) within.interventions)
      fits.names texts.interventions (λ key. refl)
      (λ i v l e. subst (λ (x : Value). IsFine limits 4 spot.Intervention x)
      (same_some (intervention_value style inst i) v e)
      (intervention_fine limits 3 (whole_number (tmax inst i)) (whole_list (durations inst i))
      (workload_value style inst i) (risk_value style inst i)
      (tmax_fine limits 3 (tmax inst i) (few_starts i l)) (delta_fine limits 2 (durations inst i) (durations_small i l))
      (workloads_fine i l) (risk_fine i l)))

  scenarios_small : All (λ m. (1 ≤ m) × (m ≤ limits.scenarios) × (m < 1_000_000_000)) inst.scenarios
  scenarios_small = λ k d l.
      let some = fits.scenarios_few k d l in
      (some.0, within.scenarios k d l, omega (arith, some))

  pub instance_fine : IsFine limits 6 spot.Root (instance_value style inst)
  instance_fine = root_fine limits 5 (object_of (named inst.resource_names (λ c. Some (resource_value style inst c))))
      (object_of (named inst.season_names (λ q. Some (season_value inst q))))
      (object_of (named inst.names (λ i. Some (intervention_value style inst i))))
      (object_of (named inst.exclusion_names (λ e. Some (exclusion_value inst e)))) (whole_number inst.periods)
      (whole_list inst.scenarios) (Value.number (style.part inst.quantile)) (Value.number (style.part inst.alpha))
      (record {
        resources = resources_fine;
        seasons = seasons_fine;
        interventions = interventions_fine;
        exclusions = exclusions_fine;
        periods = periods_fine limits 5 inst.periods fits.some_periods within.periods few_periods;
        scenarios = scenarios_fine limits 4 inst.scenarios scenarios_small;
        quantile = quantile_fine limits 5 style inst.quantile spells.quantile fits.some_quantile fits.quantile;
        alpha = alpha_fine limits 5 style inst.alpha spells.alpha fits.alpha;
      })
