-- The tree of an instance's value has no fault across the file.
use Rattle.std.proofs.Common.{◌≡◌, ℕ, zero, suc, ◌+◌, ◌-◌, ◌<◌, Bool, true, false, cond, List, [], ◌∷◌}
use Rattle.std.proofs.Common.{map, length, get_or, Option, Some, None, refl, sym, ◌∙◌, ap, subst, arith, ℤ}
use Rattle.std.proofs.Common.{option_map}
use Rattle.std.specs.Prelude.{All, slice_index, slice_index_or, ◌==◌}
use Rattle.std.specs.List.{AllZip}
use Rattle.std.proofs.lemmas.Bool.{eq-eqb, le-leb, and_from}
use Rattle.std.proofs.lemmas.List.{length-map}
use Rattle.std.proofs.lemmas.List.Elements.{All-head, All-tail, All-map, All-from_get_or}
use Rattle.json_grammar.specs.Tree.{Tree, tree, Node}
use Rattle.json_grammar.specs.laws.Value.{Value, values_of, Field, field}
use Rattle.fixed_num.specs.Sums.{list_of}
use Rattle.fixed_num.proofs.SumLemmas.{length-list_of}
use Rattle.instance_model.specs.declared.limits.Limits.{Limits}
use Rattle.instance_model.specs.declared.parts.Exclusion.{Exclusion}
use Rattle.instance_model.specs.Fitting.{IsFitting}
use Rattle.instance_model.specs.Rules.{or_else, first_of}
use Rattle.instance_model.specs.Tables.{Tables, scenarios_of, durations, is_allowed, delta_of, allowed_of}
use Rattle.instance_model.specs.Tables.{upper_of, lower_of, risk_of, exclusion_of}
use Rattle.instance_model.proofs.FirstLemmas.{first_of-all_none}
use Rattle.instance_model.proofs.FitLemmas.{tmax_small}
use Rattle.instance_shape.specs.declared.fault.Known.TheVariants as is
use Rattle.instance_shape.specs.CrossFaults.{CrossFault, unless, first_in, is_among, list_fault, band_fault}
use Rattle.instance_shape.specs.CrossFaults.{band_faults}
use Rattle.instance_shape.specs.CrossFaults.{risk_fault, risk_faults, tmax_fault, delta_fault, workload_fault}
use Rattle.instance_shape.specs.CrossFaults.{intervention_fault, intervention_faults, word_fault, exclusion_fault}
use Rattle.instance_shape.specs.CrossFaults.{exclusion_faults, cross_fault}
use Rattle.instance_shape.specs.LookUp as file
use Rattle.instance_shape.specs.LookUp.{Entry, known, entries, keys, elements, whole_at, risk_list, number_in}
use Rattle.instance_shape.specs.LookUp.{at_number}
use Rattle.instance_shape.specs.FileTables.{lists_below, word}
use Rattle.instance_shape.proofs.ListsBelow.{all_lists}
use Rattle.instance_writer.specs.text.Conditions.{SpellsNumbers, HasSpellableNames, IsWithin}
use Rattle.instance_writer.specs.text.Styles.{Style}
use Rattle.instance_writer.specs.text.Written.{under, optional, named, count_number, count_list, resource_value}
use Rattle.instance_writer.specs.text.Written.{workload_of}
use Rattle.instance_writer.specs.text.Written.{exclusion_words, exclusion_value, intervention_value, instance_value}
use Rattle.instance_writer.proofs.TextFields.{periods_are, scenarios_are, resource_names_are, season_names_are}
use Rattle.instance_writer.proofs.TextFields.{names_are}
use Rattle.instance_writer.proofs.TextFields.{resources_at, exclusions_at, intervention_entries, word_at}
use Rattle.instance_writer.proofs.TextKeys.{all_optional}
use Rattle.instance_writer.proofs.TextListed.{length-singles, get_or-singles}
use Rattle.instance_writer.proofs.TextLooked.{tmax_is, delta_long, workload_keys, starts_are, risks_there}
use Rattle.instance_writer.proofs.TextPlacing.{IsAt, IsEntry, IsOptionAt, known_at, elements_at, entries_at, zip_length}
use Rattle.instance_writer.proofs.TextPlacing.{zip_at}
use Rattle.instance_writer.proofs.TextRows.{name_among}
use Rattle.instance_writer.proofs.TextTabled.{runs_at}
use Rattle.instance_writer.proofs.TextWhole.{exclusion_in}

-- ---- faults that aren't there

no_fault : (b : Bool) (f : CrossFault) → b ≡ true → unless b f ≡ None
no_fault true f h = refl
no_fault false f h = cc

none_of_both : (o p : Option CrossFault) → o ≡ None → p ≡ None → or_else o p ≡ None
none_of_both None p h k = k
none_of_both (Some x) p h k = cc

none_in : {A : Type 0} (f : A → Option CrossFault) (xs : List A) → All (λ x. f x ≡ None) xs → first_in f xs ≡ None
none_in f [] h = refl
none_in f (x ∷ xs) h = none_of_both (f x) (first_in f xs) (All-head (λ x. f x ≡ None) x xs h)
    (none_in f xs (All-tail (λ x. f x ≡ None) x xs h))

no_entry : Entry
no_entry = record { key = []; value = tree 0 0 Node.null }

-- what holds of each entry of n values
each_entry : (n : ℕ) (key : ℕ → List ℕ) (v : ℕ → Value) (es : List Entry) (P : Entry → Type 0)
    → AllZip IsEntry (lists_below n (λ k. field (key k) (v k) ∷ [])) es
    → ((k : ℕ) (e : Entry) → k < n → IsAt (v k) e.value → P e) → All P es
each_entry n key v es P z h =
    let fs = lists_below n (λ k. field (key k) (v k) ∷ []) in
    let none = field [] Value.null in
    let size = zip_length IsEntry fs es z in
    All-from_get_or P es no_entry (λ k l.
    let m : k < n = omega (arith, l, size, length-singles n (λ k. field (key k) (v k))) in
    let there = zip_at IsEntry fs es k none no_entry z (omega (arith, l, size)) in
    let which : get_or fs k none ≡ field (key k) (v k) = get_or-singles n k (λ k. field (key k) (v k)) none m in
    h k (get_or es k no_entry) m (subst (λ (x : Field). IsAt x.value (get_or es k no_entry).value) which there.value))

module _ (limits : Limits) (style : Style) (inst : Tables) (fits : IsFitting inst) (within : IsWithin limits inst)
    (spells : SpellsNumbers style inst) (texts : HasSpellableNames inst) (root : Tree)
    (here : IsAt (instance_value style inst) root) where
  periods_of : file.periods root ≡ inst.periods
  periods_of = periods_are limits style inst fits within spells texts root here

  list_clear : list_fault root ≡ None
  list_clear = no_fault (length (file.scenarios root) == file.periods root) CrossFault.scenario_list
      (eq-eqb (length (file.scenarios root)) (file.periods root)
      (ap length (scenarios_are limits style inst fits within spells texts root here) ∙ fits.scenarios_each
      ∙ sym periods_of))

  -- ---- resources

  counts_long : (t : Tree) (f : ℕ → ℤ) → IsAt (count_list style (list_of inst.periods f)) t
      → length (elements t) ≡ file.periods root
  counts_long t f a =
      zip_length IsAt (map (count_number style) (list_of inst.periods f)) (elements t)
      (elements_at (map (count_number style) (list_of inst.periods f)) t a)
      ∙ length-map (list_of inst.periods f) (count_number style) ∙ length-list_of inst.periods f ∙ sym periods_of

  band_clear : (c : ℕ) (e : Entry) → IsAt (resource_value style inst c) e.value
      → band_fault (file.periods root) e ≡ None
  band_clear c e a =
      let upper = λ (k : ℕ). upper_of inst c (k + 1) in
      let lower = λ (k : ℕ). lower_of inst c (k + 1) in
      let fs = under is.Max (count_list style (list_of inst.periods upper))
      ∷ under is.Min (count_list style (list_of inst.periods lower)) ∷ [] in
      no_fault _ (CrossFault.band_length e.key) (and_from _ _
      (eq-eqb (length (elements (known is.Max e.value))) (file.periods root)
      (counts_long (known is.Max e.value) upper
      (known_at is.Max fs (count_list style (list_of inst.periods upper)) e.value refl a)))
      (eq-eqb (length (elements (known is.Min e.value))) (file.periods root)
      (counts_long (known is.Min e.value) lower
      (known_at is.Min fs (count_list style (list_of inst.periods lower)) e.value refl a))))

  bands_clear : band_faults root ≡ None
  bands_clear = none_in (band_fault (file.periods root)) (entries (known is.Resources root))
      (each_entry (length inst.resource_names) (λ c. slice_index_or inst.resource_names c [])
      (resource_value style inst)
      (entries (known is.Resources root)) (λ e. band_fault (file.periods root) e ≡ None)
      (entries_at _ (known is.Resources root) (resources_at limits style inst fits within spells texts root here))
      (λ c e l a. band_clear c e a))

  -- ---- interventions

  tmax_clear : (i : ℕ) (e : Entry) → i < length inst.names → IsAt (intervention_value style inst i) e.value
      → tmax_fault root e ≡ None
  tmax_clear i e l a =
      let t = tmax_is limits style inst fits within spells texts i l e.value a in
      let range = tmax_small inst i fits l in
      no_fault _ (CrossFault.bad_tmax e.key) (and_from _ _
      (le-leb 1 (whole_at (known is.Tmax e.value)) (omega (arith, t, range)))
      (le-leb (whole_at (known is.Tmax e.value)) (file.periods root) (omega (arith, t, range, periods_of))))

  delta_clear : (i : ℕ) (e : Entry) → i < length inst.names → IsAt (intervention_value style inst i) e.value
      → delta_fault e ≡ None
  delta_clear i e l a =
      no_fault _ (CrossFault.no_delta e.key)
      (le-leb (whole_at (known is.Tmax e.value)) (length (elements (known is.Delta e.value)))
      (omega (
        arith,
        tmax_is limits style inst fits within spells texts i l e.value a,
        delta_long limits style inst fits within spells texts i l e.value a,
      )))

  workload_clear : (i : ℕ) (e : Entry) → i < length inst.names → IsAt (intervention_value style inst i) e.value
      → workload_fault root e ≡ None
  workload_clear i e l a =
      let names = inst.resource_names in
      let known_name : All (λ key. unless (is_among names key) (CrossFault.unknown key) ≡ None)
      (map (λ f. f.key) (named names (workload_of style inst i))) =
      All-map (λ key. unless (is_among names key) (CrossFault.unknown key) ≡ None) (λ (f : Field). f.key)
      (named names (workload_of style inst i))
      (all_lists (λ f. unless (is_among names f.key) (CrossFault.unknown f.key) ≡ None) (length names)
      (λ k. optional (slice_index_or names k []) (workload_of style inst i k))
      (λ k m. all_optional (λ f. unless (is_among names f.key) (CrossFault.unknown f.key) ≡ None)
      (slice_index_or names k []) (workload_of style inst i k)
      (λ v q. no_fault _ (CrossFault.unknown (slice_index_or names k []))
      (name_among names k fits.resources.apart m)))) in
      ap (λ ks. first_in (λ key. unless (is_among (keys (known is.Resources root)) key) (CrossFault.unknown key)) ks)
      (workload_keys limits style inst fits within spells texts i l e.value a)
      ∙ ap (λ ns. first_in (λ key. unless (is_among ns key) (CrossFault.unknown key))
      (map (λ f. f.key) (named names (workload_of style inst i))))
      (resource_names_are limits style inst fits within spells texts root here)
      ∙ none_in (λ key. unless (is_among names key) (CrossFault.unknown key))
      (map (λ f. f.key) (named names (workload_of style inst i))) known_name

  risk_clear : (counts name : List ℕ) (t s n : ℕ) (f : ℕ → ℤ) (o : Option Tree)
      → IsOptionAt (Some (count_list style (list_of n f))) o → n ≡ slice_index counts (t - 1)
      → risk_fault counts name t s (option_map elements o) ≡ None
  risk_clear counts name t s n f None a h = absurd a
  risk_clear counts name t s n f (Some x) a h =
      no_fault _ (CrossFault.scenario_count name t s)
      (eq-eqb (length (elements x)) (slice_index counts (t - 1))
      (zip_length IsAt (map (count_number style) (list_of n f)) (elements x)
      (elements_at (map (count_number style) (list_of n f)) x a)
      ∙ length-map (list_of n f) (count_number style) ∙ length-list_of n f ∙ h))

  scenarios_same : (t : ℕ) → scenarios_of inst t ≡ slice_index (file.scenarios root) (t - 1)
  unfolding scenarios_of
  scenarios_same t =
      ap (λ ns. slice_index ns (t - 1)) (sym (scenarios_are limits style inst fits within spells texts root here))

  allowed_same : (i s : ℕ) (v : Tree) → file.durations v ≡ durations inst i
      → allowed_of (file.periods root) (file.durations v) s ≡ is_allowed inst i s
  unfolding is_allowed
  allowed_same i s v d = ap (λ n. allowed_of n (file.durations v) s) periods_of
      ∙ ap (λ ds. allowed_of inst.periods ds s) d

  delta_same : (i k : ℕ) (v : Tree) → file.durations v ≡ durations inst i
      → slice_index (file.durations v) k ≡ delta_of inst i (k + 1)
  unfolding delta_of
  delta_same i k v d =
      let same : k ≡ k + 1 - 1 = omega arith in
      ap (λ ds. slice_index ds k) d ∙ ap (slice_index (durations inst i)) same

  run_clear : (i k : ℕ) (e : Entry) (b : Bool) → i < length inst.names
      → IsAt (intervention_value style inst i) e.value → is_allowed inst i (k + 1) ≡ b
      → cond b (first_of (slice_index (file.durations e.value) k) (λ j. risk_fault (file.scenarios root) e.key
      (k + 1 + j) (k + 1) (risk_list e.value (k + 1 + j) (k + 1)))) None ≡ None
  run_clear i k e false l a h = refl
  run_clear i k e true l a h =
      let v = e.value in
      let d = starts_are limits style inst fits within spells texts i l v a in
      first_of-all_none (slice_index (file.durations v) k) _ (λ j m.
      let t = k + 1 + j in
      risk_clear (file.scenarios root) e.key t (k + 1) (scenarios_of inst t) (λ n. risk_of inst i (k + 1) t (n + 1))
      (number_in (k + 1) (at_number t (known is.Risk v)))
      (risks_there limits style inst fits within spells texts i l v a (k + 1) t h
      (runs_at inst i (k + 1) j (omega (arith, m, delta_same i k v d)))) (scenarios_same t))

  risks_clear : (i : ℕ) (e : Entry) → i < length inst.names → IsAt (intervention_value style inst i) e.value
      → risk_faults root e ≡ None
  risks_clear i e l a =
      let v = e.value in
      let d = starts_are limits style inst fits within spells texts i l v a in
      first_of-all_none (length (file.durations v)) _ (λ k m.
      run_clear i k e (allowed_of (file.periods root) (file.durations v) (k + 1)) l a
      (sym (allowed_same i (k + 1) v d)))

  interventions_clear : intervention_faults root ≡ None
  interventions_clear = none_in (intervention_fault root) (file.interventions root)
      (each_entry (length inst.names) (λ i. slice_index_or inst.names i []) (intervention_value style inst)
      (file.interventions root) (λ e. intervention_fault root e ≡ None)
      (intervention_entries limits style inst fits within spells texts root here)
      (λ i e l a. none_of_both (tmax_fault root e) _ (tmax_clear i e l a)
      (none_of_both (delta_fault e) _ (delta_clear i e l a)
      (none_of_both (workload_fault root e) _ (workload_clear i e l a) (risks_clear i e l a)))))

  -- ---- exclusions

  among_names : (i : ℕ) (text : List ℕ) → i < length inst.names → text ≡ slice_index_or inst.names i []
      → is_among (keys (known is.Interventions root)) text ≡ true
  among_names i text l e =
      ap (λ ns. is_among ns text) (names_are limits style inst fits within spells texts root here)
      ∙ ap (is_among inst.names) e ∙ name_among inst.names i fits.names.apart l

  among_seasons : (q : ℕ) (text : List ℕ) → q < length inst.season_names → text ≡ slice_index_or inst.season_names q []
      → is_among (keys (known is.Seasons root)) text ≡ true
  among_seasons q text l e =
      ap (λ ns. is_among ns text) (season_names_are limits style inst fits within spells texts root here)
      ∙ ap (is_among inst.season_names) e ∙ name_among inst.season_names q fits.seasons.apart l

  word_clear : (x : Exclusion) (e : Entry) → (x.first < length inst.names) × (x.second < length inst.names)
      × (x.season < length inst.season_names)
      → IsAt (Value.list (values_of (map Value.text (exclusion_words inst x)))) e.value → (k : ℕ) → k < 3
      → word_fault root e k ≡ None
  word_clear x e r a zero l = no_fault _ (CrossFault.unknown (word e.value 0))
      (among_names x.first (word e.value 0) r.0
      (word_at limits style inst fits within spells texts root here x e.value 0 (omega arith) a))
  word_clear x e r a (suc zero) l = no_fault _ (CrossFault.unknown (word e.value 1))
      (among_names x.second (word e.value 1) r.1
      (word_at limits style inst fits within spells texts root here x e.value 1 (omega arith) a))
  word_clear x e r a (suc (suc zero)) l = no_fault _ (CrossFault.unknown (word e.value 2))
      (among_seasons x.season (word e.value 2) r.2
      (word_at limits style inst fits within spells texts root here x e.value 2 (omega arith) a))
  word_clear x e r a (suc (suc (suc k))) l = absurd (omega arith)

  exclusions_clear : exclusion_faults root ≡ None
  exclusions_clear = none_in (exclusion_fault root) (entries (known is.Exclusions root))
      (each_entry (length inst.exclusion_names) (λ e. slice_index_or inst.exclusion_names e []) (exclusion_value inst)
      (entries (known is.Exclusions root)) (λ e. exclusion_fault root e ≡ None)
      (entries_at _ (known is.Exclusions root) (exclusions_at limits style inst fits within spells texts root here))
      (λ n e l a. first_of-all_none 3 (word_fault root e)
      (word_clear (exclusion_of inst n) e (exclusion_in limits style inst fits within spells texts n l) a)))

  pub cross_clear : cross_fault root ≡ None
  cross_clear = none_of_both (list_fault root) _ list_clear (none_of_both (band_faults root) _ bands_clear
      (none_of_both (intervention_faults root) _ interventions_clear exclusions_clear))
