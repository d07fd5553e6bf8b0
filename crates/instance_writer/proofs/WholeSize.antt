-- The text of an instance is shorter than 2 ^ 64.
use Rattle.std.proofs.Common.{◌⊎◌, inl, inr, ℕ, zero, suc, ◌+◌, ◌*◌, ◌^◌, ◌<◌, ◌≤◌, Bool, true, false, cond, List, []}
use Rattle.std.proofs.Common.{◌∷◌, length}
use Rattle.std.proofs.Common.{ap, arith, Some, None, map, codes, length-append, ◌&&◌}
use Rattle.std.specs.Prelude.{All, unsigned_abs, find, option_map, slice_index_or}
use Rattle.std.proofs.lemmas.List.Elements.{All-nil, All-cons, All-head, All-tail, All-get_or}
use Rattle.std.proofs.lemmas.List.{get_or_past}
use Rattle.std.proofs.lemmas.Bool.{cases_lt}
use Rattle.instance_shape.proofs.ListsBelow.{all_lists, all_cond}
use Rattle.fixed_num.specs.Sums.{list_of}
use Rattle.json_grammar.specs.laws.Value.{Value, Field}
use Rattle.json_grammar.specs.laws.Spelling.{spell}
use Rattle.instance_model.specs.declared.parts.LoadCell.{LoadCell}
use Rattle.instance_model.specs.declared.parts.Exclusion.{Exclusion}
use Rattle.instance_model.specs.Tables.{Tables, scenarios_of, durations, tmax, is_allowed, in_run, risk_of, is_cell_of}
use Rattle.instance_model.specs.Tables.{upper_of, lower_of, in_season_of, exclusion_of}
use Rattle.instance_model.specs.Fitting.{IsFitting, IsName}
use Rattle.instance_model.proofs.FitLemmas.{tmax_small, scenarios_of_small, risk_of_small, upper_of_small}
use Rattle.instance_model.proofs.FitLemmas.{lower_of_small}
use Rattle.instance_shape.specs.declared.fault.Known.TheVariants as known
use Rattle.instance_shape.specs.FileTables.{lists_below}
use Rattle.instance_writer.specs.text.Styles.{decimals, part_text}
use Rattle.instance_writer.specs.text.Written.{count_number, count_list, whole_number, whole_list, object_of, numbered}
use Rattle.instance_writer.specs.text.Written.{named, under, resource_value, season_periods, season_value}
use Rattle.instance_writer.specs.text.Written.{exclusion_words}
use Rattle.instance_writer.specs.text.Written.{exclusion_value, load_value, workload_of, workload_value, risks_of}
use Rattle.instance_writer.specs.text.Written.{risk_value}
use Rattle.instance_writer.specs.text.Written.{intervention_value, instance_text}
use Rattle.instance_writer.specs.Steps.{fields_text, start_load, period_loads, period_risks, number_fields}
use Rattle.instance_writer.proofs.RootLemmas.{resources, seasons, exclusions}
use Rattle.instance_writer.proofs.SizeLemmas.{IsWithin, length-quoted, length-values, length-list, length-object}
use Rattle.instance_writer.proofs.SizeLemmas.{length-field, length-more, filled_within}
use Rattle.instance_writer.proofs.NumberSizes.{length-whole, length-count, length-part}
use Rattle.instance_writer.proofs.PartSizes.{counts_short, whole_list_short, numbered_short, named_short}

-- one field more
pub field_more : (key : List ℕ) (v : Value) (fs : List Field) (short most rest : ℕ) → length key ≤ short
    → length (spell v) ≤ most → length (fields_text false fs) ≤ rest
    → length (fields_text false (record { key = key; value = v } ∷ fs)) ≤ 2 * short + 4 + most + rest
field_more key v fs short most rest few low others = omega (
  arith,
  length-more (record { key = key; value = v } ∷ []) fs,
  length-field key v short most few low,
)

-- numbers from 1 on of which some are left out
flag_few : (b : Bool) (k : ℕ) → length (cond b (k ∷ []) []) ≤ 1
flag_few true k = omega arith
flag_few false k = omega arith

flags_few : (n : ℕ) (p : ℕ → Bool) → length (lists_below n (λ k. cond (p k) ((k + 1) ∷ []) [])) ≤ n
flags_few zero p = omega arith
flags_few (suc n) p = omega (
  arith,
  flags_few n p,
  flag_few (p n) (n + 1),
  length-append (lists_below n (λ k. cond (p k) ((k + 1) ∷ []) [])) (cond (p n) ((n + 1) ∷ []) []),
)

flags_small : (n : ℕ) (p : ℕ → Bool) → n ≤ 512
    → All (λ m. m < 10 ^ 9) (lists_below n (λ k. cond (p k) ((k + 1) ∷ []) []))
flags_small n p few =
    all_lists (λ m. m < 10 ^ 9) n (λ k. cond (p k) ((k + 1) ∷ []) [])
    (λ k low. all_cond (λ m. m < 10 ^ 9) (p k) ((k + 1) ∷ [])
    (λ _. All-cons (λ m. m < 10 ^ 9) (k + 1) [] (omega arith) (All-nil (λ m. m < 10 ^ 9))))

name_short : (names : List (List ℕ)) (k : ℕ) → All IsName names → length (slice_index_or names k []) ≤ 128
name_short names k shaped = go (cases_lt k (length names))
  where
    go : (k < length names) ⊎ (length names ≤ k) → length (slice_index_or names k []) ≤ 128
    go (inl low) = (shaped k [] low).short
    go (inr past) = omega (arith, ap length (get_or_past names k [] past))

text_short : (s : List ℕ) → length s ≤ 128 → length (spell (Value.text s)) ≤ 258
unfolding spell
text_short s short = omega (arith, length-quoted s, short)

load_short : (cells : List LoadCell) (c t s : ℕ) → All (λ cell. unsigned_abs cell.load < 10 ^ 20) cells
    → IsWithin 35 (load_value decimals cells c t s)
unfolding spell
load_short [] c t s small = tt
load_short (x ∷ cells) c t s small =
    go (is_cell_of s t c x) (All-head (λ cell. unsigned_abs cell.load < 10 ^ 20) x cells small)
    (load_short cells c t s (All-tail (λ cell. unsigned_abs cell.load < 10 ^ 20) x cells small))
  where
    go : (b : Bool) → unsigned_abs x.load < 10 ^ 20 → IsWithin 35 (load_value decimals cells c t s)
        → IsWithin 35
        (option_map (λ (cell : LoadCell). count_number decimals cell.load)
        (cond b (Some x) (find (is_cell_of s t c) cells)))
    go true low rest = length-count x.load (omega (arith, low))
    go false low rest = rest

cond_within : (most : ℕ) (b : Bool) (v : Value) → length (spell v) ≤ most → IsWithin most (cond b (Some v) None)
cond_within most true v low = low
cond_within most false v low = tt

module _ (inst : Tables) (fits : IsFitting inst) where
  -- ---- resources
  resource_short : (c : ℕ) → length (spell (resource_value decimals inst c)) ≤ 36_890
  resource_short c =
      let upper = count_list decimals (list_of inst.periods (λ k. upper_of inst c (k + 1))) in
      let lower = count_list decimals (list_of inst.periods (λ k. lower_of inst c (k + 1))) in
      let a = counts_short inst.periods (λ k. upper_of inst c (k + 1))
      (λ k. omega (arith, upper_of_small inst c (k + 1) fits)) in
      let b = counts_short inst.periods (λ k. lower_of inst c (k + 1))
      (λ k. omega (arith, lower_of_small inst c (k + 1) fits)) in
      omega (
        arith,
        length-object (under known.Max upper ∷ under known.Min lower ∷ []),
        length-more (under known.Max upper ∷ []) (under known.Min lower ∷ []),
        length-field (codes "max") upper 3 18434 (omega arith) (omega (arith, a, fits.few_periods)),
        length-field (codes "min") lower 3 18434 (omega arith) (omega (arith, b, fits.few_periods)),
      )

  pub resources_short : length (spell (resources decimals inst)) ≤ 1_188_802
  resources_short = omega (
    arith,
    length-object (named inst.resource_names (λ c. Some (resource_value decimals inst c))),
    named_short inst.resource_names (λ c. Some (resource_value decimals inst c)) 36_890 fits.resources.shaped
        (λ c low. resource_short c),
    fits.resources.few,
  )

  -- ---- seasons and exclusions
  season_short : (q : ℕ) → length (spell (season_value inst q)) ≤ 5122
  season_short q = omega (
    arith,
    whole_list_short (season_periods inst q)
        (flags_small inst.periods (λ k. in_season_of inst q (k + 1)) fits.few_periods),
    flags_few inst.periods (λ k. in_season_of inst q (k + 1)),
    fits.few_periods,
  )

  pub seasons_short : length (spell (seasons inst)) ≤ 344_450
  seasons_short = omega (
    arith,
    length-object (named inst.season_names (λ q. Some (season_value inst q))),
    named_short inst.season_names (λ q. Some (season_value inst q)) 5122 fits.seasons.shaped (λ q low. season_short q),
    fits.seasons.few,
  )

  words_short : (e : Exclusion) → All (λ w. length (spell (Value.text w)) ≤ 258) (exclusion_words inst e)
  words_short e =
      let P : List ℕ → Type 0 = λ w. length (spell (Value.text w)) ≤ 258 in
      let first : List ℕ = slice_index_or inst.names e.first [] in
      let second : List ℕ = slice_index_or inst.names e.second [] in
      let season : List ℕ = slice_index_or inst.season_names e.season [] in
      All-cons P first (second ∷ season ∷ []) (text_short first (name_short inst.names e.first fits.names.shaped))
      (All-cons P second (season ∷ []) (text_short second (name_short inst.names e.second fits.names.shaped))
      (All-cons P season [] (text_short season (name_short inst.season_names e.season fits.seasons.shaped))
      (All-nil P)))

  exclusion_short : (e : ℕ) → length (spell (exclusion_value inst e)) ≤ 779
  exclusion_short e = omega (
    arith,
    length-list (map Value.text (exclusion_words inst (exclusion_of inst e))),
    length-values Value.text 258 (exclusion_words inst (exclusion_of inst e)) (words_short (exclusion_of inst e)),
  )

  pub exclusions_short : length (spell (exclusions inst)) ≤ 68_091_906
  exclusions_short = omega (
    arith,
    length-object (named inst.exclusion_names (λ e. Some (exclusion_value inst e))),
    named_short inst.exclusion_names (λ e. Some (exclusion_value inst e)) 779 fits.exclusions.shaped
        (λ e low. exclusion_short e),
    fits.exclusions.few,
  )

  -- ---- interventions
  module _ (i : ℕ) (number : i < length inst.names) where
    starts_few : tmax inst i ≤ 512
    starts_few = omega (arith, (tmax_small inst i fits number).1, fits.few_periods)

    period_loads_short : (c t : ℕ) → IsWithin 29_186 (period_loads decimals inst i c t)
    period_loads_short c t =
        filled_within (numbered (tmax inst i) (start_load decimals inst i c t)) 29_184
        (omega (
          arith,
          numbered_short (tmax inst i) (start_load decimals inst i c t) 35 starts_few
              (λ k low. load_short (slice_index_or inst.loads i []) c t (k + 1) (fits.cells i number).small),
          starts_few,
        ))

    workload_of_short : (c : ℕ) → IsWithin 14_954_498 (workload_of decimals inst i c)
    workload_of_short c =
        filled_within (numbered inst.periods (period_loads decimals inst i c)) 14_954_496
        (omega (
          arith,
          numbered_short inst.periods (period_loads decimals inst i c) 29_186 fits.few_periods
              (λ k low. period_loads_short c (k + 1)),
          fits.few_periods,
        ))

    workload_short : length (spell (workload_value decimals inst i)) ≤ 478_552_258
    workload_short = omega (
      arith,
      length-object (named inst.resource_names (workload_of decimals inst i)),
      named_short inst.resource_names (workload_of decimals inst i) 14_954_498 fits.resources.shaped
          (λ c low. workload_of_short c),
      fits.resources.few,
    )

    risks_short : (t s : ℕ) → 1 ≤ t → t ≤ inst.periods → IsWithin 36_866 (risks_of decimals inst i t s)
    risks_short t s from to =
        let risks = list_of (scenarios_of inst t) (λ k. risk_of inst i s t (k + 1)) in
        cond_within 36_866 (is_allowed inst i s && in_run inst i s t) (count_list decimals risks)
        (omega (
          arith,
          counts_short (scenarios_of inst t) (λ k. risk_of inst i s t (k + 1))
              (λ k. omega (arith, risk_of_small inst i s t (k + 1) fits)),
          (scenarios_of_small inst t fits from to).1,
        ))

    period_risks_short : (t : ℕ) → 1 ≤ t → t ≤ inst.periods → IsWithin 18_886_658 (period_risks decimals inst i t)
    period_risks_short t from to =
        filled_within (numbered (tmax inst i) (risks_of decimals inst i t)) 18_886_656
        (omega (
          arith,
          numbered_short (tmax inst i) (risks_of decimals inst i t) 36_866 starts_few
              (λ k low. risks_short t (k + 1) from to),
          starts_few,
        ))

    risk_short : length (spell (risk_value decimals inst i)) ≤ 9_669_980_162
    risk_short = omega (
      arith,
      length-object (numbered inst.periods (period_risks decimals inst i)),
      numbered_short inst.periods (period_risks decimals inst i) 18_886_658 fits.few_periods
          (λ k low. period_risks_short (k + 1) (omega arith) (omega arith)),
      fits.few_periods,
    )

    durations_short : length (spell (whole_list (durations inst i))) ≤ 5122
    unfolding tmax durations
    durations_short = omega (
      arith,
      whole_list_short (durations inst i)
          (All-get_or (λ ds. All (λ d. d < 1_000_000_000) ds) inst.delta i [] (omega (arith, number, fits.delta_each))
          fits.delta_small),
      starts_few,
    )

    intervention_short : length (spell (intervention_value decimals inst i)) ≤ 10_148_537_611
    unfolding spell
    intervention_short =
        let starts : Value = whole_number (tmax inst i) in
        let delta : Value = whole_list (durations inst i) in
        let workload : Value = workload_value decimals inst i in
        let risk : Value = risk_value decimals inst i in
        let fourth : List Field = under known.Risk risk ∷ [] in
        let third : List Field = under known.Workload workload ∷ fourth in
        let second : List Field = under known.Delta delta ∷ third in
        let a : length (fields_text false fourth) ≤ 9_669_980_174 =
        length-field (codes "risk") risk 4 9_669_980_162 (omega arith) risk_short in
        let b : length (fields_text false third) ≤ 10_148_532_452 =
        field_more (codes "workload") workload fourth 8 478_552_258 9_669_980_174 (omega arith) workload_short a in
        let c : length (fields_text false second) ≤ 10_148_537_588 =
        field_more (codes "Delta") delta third 5 5122 10_148_532_452 (omega arith) durations_short b in
        let d : length (fields_text false (under known.Tmax starts ∷ second)) ≤ 10_148_537_609 =
        field_more (codes "tmax") starts second 4 9 10_148_537_588 (omega arith)
        (length-whole (tmax inst i) (omega (arith, starts_few))) c in
        omega (arith, d, length-object (under known.Tmax starts ∷ second))

  pub interventions_short :
      length (spell (object_of (named inst.names (λ i. Some (intervention_value decimals inst i)))))
      ≤ 10_392_102_779_906
  interventions_short = omega (
    arith,
    length-object (named inst.names (λ i. Some (intervention_value decimals inst i))),
    named_short inst.names (λ i. Some (intervention_value decimals inst i)) 10_148_537_611 fits.names.shaped
        (λ i low. intervention_short i low),
    fits.names.few,
  )

  -- ---- the whole
  scenarios_small : All (λ n. n < 10 ^ 9) inst.scenarios
  scenarios_small k d low = omega (arith, (fits.scenarios_few k d low).1)

  numbers_short : length (fields_text false (number_fields decimals inst)) ≤ 5249
  unfolding spell
  numbers_short =
      let periods : Value = whole_number inst.periods in
      let scenarios : Value = whole_list inst.scenarios in
      let quantile : Value = Value.number (part_text inst.quantile) in
      let alpha : Value = Value.number (part_text inst.alpha) in
      let fourth : List Field = under known.Alpha alpha ∷ [] in
      let third : List Field = under known.Quantile quantile ∷ fourth in
      let second : List Field = under known.ScenariosNumber scenarios ∷ third in
      let a : length (fields_text false fourth) ≤ 35 =
      length-field (codes "Alpha") alpha 5 21 (omega arith) (length-part inst.alpha fits.alpha) in
      let b : length (fields_text false third) ≤ 76 =
      field_more (codes "Quantile") quantile fourth 8 21 35 (omega arith) (length-part inst.quantile fits.quantile) a in
      let c : length (fields_text false second) ≤ 5234 =
      field_more (codes "Scenarios_number") scenarios third 16 5122 76 (omega arith)
      (omega (
        arith,
        whole_list_short inst.scenarios scenarios_small,
        fits.scenarios_each,
        fits.few_periods,
      )) b in
      field_more (codes "T") periods second 1 9 5234 (omega arith)
      (length-whole inst.periods (omega (arith, fits.few_periods))) c

  pub instance_short : length (instance_text decimals inst) < 2 ^ 64
  instance_short =
      let all : Value = object_of (named inst.names (λ i. Some (intervention_value decimals inst i))) in
      let fifth : List Field = number_fields decimals inst in
      let fourth : List Field = under known.Exclusions (exclusions inst) ∷ fifth in
      let third : List Field = under known.Interventions all ∷ fourth in
      let second : List Field = under known.Seasons (seasons inst) ∷ third in
      let a : length (fields_text false fourth) ≤ 68_097_179 =
      field_more (codes "Exclusions") (exclusions inst) fifth 10 68_091_906 5249 (omega arith) exclusions_short
      numbers_short in
      let b : length (fields_text false third) ≤ 10_392_170_877_115 =
      field_more (codes "Interventions") all fourth 13 10_392_102_779_906 68_097_179 (omega arith) interventions_short
      a in
      let c : length (fields_text false second) ≤ 10_392_171_221_583 =
      field_more (codes "Seasons") (seasons inst) third 7 344_450 10_392_170_877_115 (omega arith) seasons_short b in
      let all_resources = resources decimals inst in
      let d : length (fields_text false (under known.Resources all_resources ∷ second)) ≤ 10_392_172_410_407 =
      field_more (codes "Resources") all_resources second 9 1_188_802 10_392_171_221_583 (omega arith)
      resources_short
      c in
      omega (arith, d, length-object (under known.Resources all_resources ∷ second))
