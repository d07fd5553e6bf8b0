-- The first fault across a file is that of its rows.
use Rattle.std.proofs.Common.{◌≡◌, ℕ, ◌+◌, ◌-◌, ◌&&◌, ◌==◌, Bool, true, false, cond, List, [], ◌∷◌, map, length, Option}
use Rattle.std.proofs.Common.{Some, None, refl, sym, ◌∙◌, ap, option_map}
use Rattle.std.specs.Prelude.{slice_index, slice_index_or, nat_lt, nat_le}
use Rattle.std.proofs.Math.ListN.{get_or-map}
use Rattle.std.proofs.lemmas.List.{length-map}
use Rattle.json_grammar.specs.Tree.{Tree, tree, Node}
use Rattle.instance_model.specs.Rules.{or_else}
use Rattle.instance_model.specs.Tables.{allowed_of}
use Rattle.instance_model.specs.declared.limits.Limits.{Limits}
use Rattle.instance_shape.specs.declared.fault.Known.TheVariants as is
use Rattle.instance_shape.specs.declared.spot.Spot.TheVariants as spot
use Rattle.instance_shape.specs.ShapeFaults.{shape_faults}
use Rattle.instance_shape.specs.LookUp.{Entry, elements, entries, keys, known, whole_at, text_at, count_at, periods}
use Rattle.instance_shape.specs.LookUp.{scenarios, interventions, durations, number_in, at_number}
use Rattle.instance_shape.specs.CrossFaults as cross
use Rattle.instance_shape.specs.CrossFaults.{CrossFault, band_length, no_delta, unknown, scenario_count, unless}
use Rattle.instance_shape.specs.CrossFaults.{first_in, is_among, cross_fault}
use Rattle.instance_rows.specs.FileRows.{band_row, work_row, workload_row, risk_rows, rows_of}
use Rattle.instance_rows.specs.RowFaults.{no_band, no_work, band_fault, list_fault, runs_fault, delta_fault}
use Rattle.instance_rows.specs.RowFaults.{workload_fault, work_fault, word_fault, exclusion_fault, bands_fault}
use Rattle.instance_rows.specs.RowFaults.{works_fault, exclusions_fault, rows_fault}
use Rattle.instance_rows.proofs.Findings.{list_row, risk_found}
use Rattle.instance_rows.proofs.Firsts.{first_same, first_in-map, first_rows}
use Rattle.instance_shape.proofs.Clear.{IsClear, root_clear}
use Rattle.instance_shape.proofs.ClearParts.{known_clear}
use Rattle.instance_rows.proofs.NumberedKeys.{AreClear, entries_clear}

-- ---- resources

band_same : (n : ℕ) (e : Entry) → cross.band_fault n e ≡ band_fault n e.key (band_row e.value)
band_same n e =
    ap (λ (k : ℕ). unless ((k == n) && (length (elements (known is.Min e.value)) == n)) (band_length e.key))
    (sym (length-map (elements (known is.Max e.value)) count_at))
    ∙ ap (λ (k : ℕ). unless ((length (map count_at (elements (known is.Max e.value))) == n) && (k == n))
    (band_length e.key)) (sym (length-map (elements (known is.Min e.value)) count_at))

first_in-same : {A : Type 0} (f g : A → Option CrossFault) (xs : List A) → ((x : A) → f x ≡ g x)
    → first_in f xs ≡ first_in g xs
first_in-same f g [] h = refl
first_in-same f g (x ∷ xs) h = ap (λ o. or_else o (first_in f xs)) (h x) ∙ ap (or_else (g x)) (first_in-same f g xs h)

bands_same : (root : Tree) → cross.band_faults root ≡ bands_fault (rows_of root)
bands_same root =
    first_in-same (cross.band_fault (periods root)) (λ e. band_fault (periods root) e.key (band_row e.value))
    (entries (known is.Resources root)) (band_same (periods root))
    ∙ first_rows (band_fault (periods root)) band_row (entries (known is.Resources root)) no_band

-- ---- interventions

list_same : (counts name : List ℕ) (t s : ℕ) (o : Option Tree) → cross.risk_fault counts name t s (option_map elements
    o) ≡ list_fault counts name t s (option_map (list_row t s) o)
list_same counts name t s None = refl
list_same counts name t s (Some x) = ap (λ (k : ℕ). unless (k == slice_index counts (t - 1)) (scenario_count name t s))
    (sym (length-map (elements x) count_at))

runs_same : (limits : Limits) (root : Tree) (e : Entry) → IsClear limits spot.Intervention e.value
    → cross.risk_faults root e ≡ runs_fault (periods root) (scenarios root) e.key (durations e.value) (risk_rows
    (entries (known is.Risk e.value)))
runs_same limits root e h = first_same (length (durations e.value)) _ _
    (λ k l. ap (λ o. cond (allowed_of (periods root) (durations e.value) (k + 1)) o None)
    (first_same (slice_index (durations e.value) k) _ _ (λ j m.
    list_same (scenarios root) e.key (k + 1 + j) (k + 1)
    (number_in (k + 1) (at_number (k + 1 + j) (known is.Risk e.value)))
    ∙ ap (list_fault (scenarios root) e.key (k + 1 + j) (k + 1))
    (sym (risk_found limits e.value (k + 1 + j) (k + 1) h)))))

delta_same : (e : Entry) → cross.delta_fault e ≡ delta_fault e.key (work_row e.value)
delta_same e = ap (λ (k : ℕ). unless (nat_le (whole_at (known is.Tmax e.value)) k) (no_delta e.key))
    (sym (length-map (elements (known is.Delta e.value)) whole_at))

workload_same : (root : Tree) (e : Entry) → cross.workload_fault root e ≡ first_in (workload_fault
    (keys (known is.Resources root))) (map workload_row (entries (known is.Workload e.value)))
workload_same root e =
    first_in-map (λ key. unless (is_among (keys (known is.Resources root)) key) (unknown key)) (λ w. w.key)
    (entries (known is.Workload e.value))
    ∙ sym (first_in-map (workload_fault (keys (known is.Resources root))) workload_row
    (entries (known is.Workload e.value)))

work_same : (limits : Limits) (root : Tree) (e : Entry) → IsClear limits spot.Intervention e.value
    → cross.intervention_fault root e ≡ work_fault (rows_of root) e.key (work_row e.value)
work_same limits root e h =
    ap (λ o. or_else (cross.tmax_fault root e)
    (or_else o (or_else (cross.workload_fault root e) (cross.risk_faults root e)))) (delta_same e)
    ∙ ap (λ o. or_else (cross.tmax_fault root e)
    (or_else (delta_fault e.key (work_row e.value)) (or_else o (cross.risk_faults root e)))) (workload_same root e)
    ∙ ap (λ o. or_else (cross.tmax_fault root e)
    (or_else (delta_fault e.key (work_row e.value))
    (or_else (first_in (workload_fault (keys (known is.Resources root)))
    (map workload_row (entries (known is.Workload e.value)))) o))) (runs_same limits root e h)

works_each : (limits : Limits) (root : Tree) (es : List Entry) → AreClear limits spot.Interventions es
    → first_in (cross.intervention_fault root) es
    ≡ first_in (λ e. work_fault (rows_of root) e.key (work_row e.value)) es
works_each limits root [] a = refl
works_each limits root (e ∷ es) a =
    ap (λ o. or_else o (first_in (cross.intervention_fault root) es)) (work_same limits root e a.0)
    ∙ ap (or_else (work_fault (rows_of root) e.key (work_row e.value))) (works_each limits root es a.1)

works_same : (limits : Limits) (root : Tree) → AreClear limits spot.Interventions (interventions root)
    → cross.intervention_faults root ≡ works_fault (rows_of root)
works_same limits root a = works_each limits root (interventions root) a
    ∙ first_rows (work_fault (rows_of root)) work_row (interventions root) no_work

-- ---- exclusions

word_same : (root : Tree) (e : Entry) (k : ℕ)
    → cross.word_fault root e k ≡ word_fault (rows_of root) (map text_at (elements e.value)) k
word_same root e k =
    ap (λ (w : List ℕ). unless (is_among (keys (known (cond (nat_lt k 2) is.Interventions is.Seasons) root)) w)
    (unknown w)) (sym (get_or-map text_at (elements e.value) k (tree 0 0 Node.null)))
    ∙ ap (λ (names : List (List ℕ)). unless (is_among names (slice_index_or (map text_at (elements e.value)) k []))
    (unknown (slice_index_or (map text_at (elements e.value)) k []))) (by (nat_lt k 2))
  where
    by : (b : Bool) → keys (known (cond b is.Interventions is.Seasons) root)
        ≡ cond b (keys (known is.Interventions root)) (keys (known is.Seasons root))
    by true = refl
    by false = refl

exclusions_same : (root : Tree) → cross.exclusion_faults root ≡ exclusions_fault (rows_of root)
exclusions_same root =
    first_in-same (cross.exclusion_fault root) (λ e. exclusion_fault (rows_of root) (map text_at (elements e.value)))
    (entries (known is.Exclusions root))
    (λ e. first_same 3 (cross.word_fault root e) (word_fault (rows_of root) (map text_at (elements e.value)))
    (λ k l. word_same root e k))
    ∙ first_rows (λ key words. exclusion_fault (rows_of root) words) (λ v. map text_at (elements v))
    (entries (known is.Exclusions root)) []

-- ---- the file

-- the interventions of a text without a fault of shape have none
pub interventions_clear : (limits : Limits) (root : Tree) → shape_faults limits root ≡ []
    → AreClear limits spot.Interventions (interventions root)
interventions_clear limits root h =
    known_clear limits spot.Root is.Interventions root (λ v. AreClear limits spot.Interventions (entries v))
    (root_clear limits root h) tt (λ v k. entries_clear limits spot.Interventions v k)

pub fault_law : (limits : Limits) (root : Tree) → shape_faults limits root ≡ []
    → cross_fault root ≡ rows_fault (rows_of root)
fault_law limits root h =
    ap (λ o. or_else (cross.list_fault root)
    (or_else o (or_else (cross.intervention_faults root) (cross.exclusion_faults root)))) (bands_same root)
    ∙ ap (λ o. or_else (cross.list_fault root)
    (or_else (bands_fault (rows_of root)) (or_else o (cross.exclusion_faults root))))
    (works_same limits root (interventions_clear limits root h))
    ∙ ap (λ o. or_else (cross.list_fault root)
    (or_else (bands_fault (rows_of root)) (or_else (works_fault (rows_of root)) o))) (exclusions_same root)
