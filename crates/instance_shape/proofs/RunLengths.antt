-- The tables of risks and soft flags are as long as the interventions, their allowed
-- starts and the periods of their runs want.
use Rattle.std.proofs.Common.{◌≡◌, ℕ, ◌+◌, ◌-◌, ◌<◌, Bool, true, false, cond, List, [], map, length, None, refl, sym}
use Rattle.std.proofs.Common.{◌∙◌, ap, arith, unwrap_or, ℤ}
use Rattle.std.specs.Prelude.{All, slice_index, slice_index_or, if◌then◌else◌}
use Rattle.std.specs.List.{sum_by}
use Rattle.std.proofs.lemmas.List.{get_or-map, length-map}
use Rattle.std.proofs.lemmas.List.Elements.{All-weaker}
use Rattle.json_grammar.specs.Tree.{Tree}
use Rattle.instance_model.specs.Naturals.{count_sum}
use Rattle.instance_model.specs.Tables as model
use Rattle.instance_model.specs.Tables.{allowed_of, all_entries, entries_of, entries_at, tmax, is_allowed, delta_of}
use Rattle.instance_model.specs.Tables.{scenarios_of, scenarios_before, periods_before}
use Rattle.instance_model.proofs.EntryLemmas.{allowed_facts, count_sum_same, scenarios_before_more, periods_before_more}
use Rattle.instance_shape.specs.LookUp.{Entry, durations, risk_list, count_at, periods, scenarios, interventions}
use Rattle.instance_shape.specs.CrossFaults.{cross_fault}
use Rattle.instance_shape.specs.FileTables.{tables, lists_below, all_below, each_run, risks_at, soft_at}
use Rattle.instance_shape.specs.OwnNumbers.{each_at}
use Rattle.instance_shape.proofs.CountSums.{column_grows, count_sum-places, sum_by_same}
use Rattle.instance_shape.proofs.ListsBelow.{length-lists_below, length-all_below}
use Rattle.instance_shape.proofs.NoCrossFault.{IsComplete, scenarios_each, interventions_complete}

-- ---- one intervention

-- how many entries an intervention with these durations has at start k + 1, where before t
-- are those of a whole horizon before period t
abbrev pub start_size : ℕ → (ℕ → ℕ) → List ℕ → ℕ → ℕ
start_size n before ds k =
    if allowed_of n ds (k + 1) then before (k + 1 + slice_index ds (k + 1 - 1)) - before (k + 1) else 0

-- at all starts
abbrev pub row_size : ℕ → (ℕ → ℕ) → List ℕ → ℕ
row_size n before ds = count_sum (length ds) (start_size n before ds)

-- what is listed for an intervention at start k + 1
abbrev pub start_list : {A : Type 0} → Tree → (Tree → ℕ → ℕ → List A) → Tree → ℕ → List A
start_list root f v k = cond (allowed_of (periods root) (durations v) (k + 1))
    (lists_below (slice_index (durations v) k) (λ j. f v (k + 1) (k + 1 + j))) []

-- what is listed for an intervention grows in each period of each allowed run as a column does
abbrev pub GrowsAs : {A : Type 0} → Tree → (Tree → ℕ → ℕ → List A) → (ℕ → ℕ) → Tree → Type 0
GrowsAs root f before v = (k j : ℕ) → k < length (durations v) → allowed_of (periods root) (durations v) (k + 1) ≡ true
    → j < slice_index (durations v) k → before (k + 1 + j + 1) ≡ before (k + 1 + j) + length (f v (k + 1) (k + 1 + j))

pub start_length : {A : Type 0} (root : Tree) (f : Tree → ℕ → ℕ → List A) (before : ℕ → ℕ) (v : Tree) (k : ℕ)
    → GrowsAs root f before v → k < length (durations v)
    → length (start_list root f v k) ≡ start_size (periods root) before (durations v) k
start_length root f before v k h l =
    by (allowed_of (periods root) (durations v) (k + 1))
    (λ a. column_grows before (λ j. length (f v (k + 1) (k + 1 + j))) (k + 1)
    (slice_index (durations v) k) (λ j m. h k j l a m))
  where
    by : (a : Bool)
        → (a ≡ true → before (k + 1 + slice_index (durations v) k) ≡ before (k + 1) + count_sum (slice_index
        (durations v) k) (λ j. length (f v (k + 1) (k + 1 + j))))
        → length (cond a (lists_below (slice_index (durations v) k) (λ j. f v (k + 1) (k + 1 + j))) [])
        ≡ (if a then before (k + 1 + slice_index (durations v) (k + 1 - 1)) - before (k + 1) else 0)
    by true g =
        let same : k + 1 - 1 ≡ k = omega arith in
        let end : before (k + 1 + slice_index (durations v) (k + 1 - 1)) ≡ before (k + 1 + slice_index (durations v)
        k) = ap (λ i. before (k + 1 + slice_index (durations v) i)) same in
        omega (arith, length-lists_below (slice_index (durations v) k) (λ j. f v (k + 1) (k + 1 + j)), g refl, end)
    by false g = refl

pub runs_length : {A : Type 0} (root : Tree) (f : Tree → ℕ → ℕ → List A) (before : ℕ → ℕ) (v : Tree)
    → GrowsAs root f before v → length (each_run root f v) ≡ row_size (periods root) before (durations v)
runs_length root f before v h =
    length-lists_below (length (durations v)) (start_list root f v)
    ∙ count_sum_same (length (durations v)) (λ k. length (start_list root f v k))
    (start_size (periods root) before (durations v)) (λ k l. start_length root f before v k h l)

-- ---- all interventions

-- the durations of intervention i in the tables are those of the file's
pub durations_are : (slack : ℤ) (root : Tree) (i : ℕ) (e : Entry) → i < length (interventions root)
    → model.durations (tables slack root) i ≡ durations (slice_index_or (interventions root) i e).value
unfolding model.durations
durations_are slack root i e l = get_or-map (λ (x : Entry). durations x.value) (interventions root) i e [] l

entries_are : (slack : ℤ) (root : Tree) (before : ℕ → ℕ)
    → all_entries (tables slack root) before ≡ count_sum (length (map (λ e. e.key) (interventions root))) (λ i. row_size
    (periods root) before (slice_index_or (map (λ e. durations e.value) (interventions root)) i []))
unfolding all_entries entries_of entries_at tmax is_allowed delta_of model.durations
entries_are slack root before = refl

over_entries : (slack : ℤ) (root : Tree) (before : ℕ → ℕ) → all_entries (tables slack root) before
    ≡ sum_by (λ e. row_size (periods root) before (durations e.value)) (interventions root)
over_entries slack root before =
    entries_are slack root before
    ∙ ap (λ n. count_sum n
    (λ i. row_size (periods root) before (slice_index_or (map (λ e. durations e.value) (interventions root)) i [])))
    (length-map (interventions root) (λ (e : Entry). e.key))
    ∙ count_sum-places (λ (e : Entry). durations e.value) (row_size (periods root) before) [] (interventions root)

pub table_length : {A : Type 0} (slack : ℤ) (root : Tree) (f : Tree → ℕ → ℕ → List A) (before : ℕ → ℕ)
    → All (λ e. GrowsAs root f before e.value) (interventions root)
    → length (all_below (interventions root) (each_run root f)) ≡ all_entries (tables slack root) before
table_length slack root f before a =
    length-all_below (each_run root f) (interventions root)
    ∙ sum_by_same (λ e. length (each_run root f e.value))
    (λ e. row_size (periods root) before (durations e.value)) (interventions root)
    (All-weaker (λ e. GrowsAs root f before e.value)
    (λ e. length (each_run root f e.value) ≡ row_size (periods root) before (durations e.value))
    (λ e h. runs_length root f before e.value h) (interventions root) a)
    ∙ sym (over_entries slack root before)

-- ---- risks and soft flags

pub scenarios_of_is : (slack : ℤ) (root : Tree) (t : ℕ)
    → scenarios_of (tables slack root) t ≡ slice_index (scenarios root) (t - 1)
unfolding scenarios_of
scenarios_of_is slack root t = refl

-- lists of one thing for each risk number grow as the scenarios do
pub numbers_grow : {A : Type 0} (slack : ℤ) (root : Tree) (g : Tree → A) (e : Entry) → length (scenarios root)
    ≡ periods root → IsComplete root e.value → GrowsAs root (each_at g) (scenarios_before (tables slack root)) e.value
numbers_grow slack root g e each c = λ k j l a m.
    let v = e.value in
    let ends = (allowed_facts (periods root) (durations v) (k + 1) a).2 in
    let same : k + 1 - 1 ≡ k = omega arith in
    let d : slice_index (durations v) (k + 1 - 1) ≡ slice_index (durations v) k = ap (slice_index (durations v)) same in
    let size : length (each_at g v (k + 1) (k + 1 + j)) ≡ slice_index (scenarios root) (k + 1 + j - 1) =
    length-map (unwrap_or (risk_list v (k + 1 + j) (k + 1)) []) g ∙ c.risks k j l a m in
    omega (
      arith,
      scenarios_before_more (tables slack root) (k + 1 + j) each (omega arith) (omega (arith, ends, d)),
      scenarios_of_is slack root (k + 1 + j),
      size,
    )

pub all_grow : {A : Type 0} (slack : ℤ) (root : Tree) (g : Tree → A) → cross_fault root ≡ None
    → All (λ e. GrowsAs root (each_at g) (scenarios_before (tables slack root)) e.value) (interventions root)
all_grow slack root g h =
    All-weaker (λ e. IsComplete root e.value)
    (λ e. GrowsAs root (each_at g) (scenarios_before (tables slack root)) e.value)
    (λ e c. numbers_grow slack root g e (scenarios_each root h) c) (interventions root)
    (interventions_complete root h)

pub risks_each : (slack : ℤ) (root : Tree) → cross_fault root ≡ None
    → length (all_below (interventions root) (each_run root risks_at))
    ≡ all_entries (tables slack root) (scenarios_before (tables slack root))
risks_each slack root h =
    table_length slack root risks_at (scenarios_before (tables slack root)) (all_grow slack root count_at h)

-- there is one soft flag for each period
pub soft_grow : (root : Tree) → All (λ e. GrowsAs root soft_at periods_before e.value) (interventions root)
soft_grow root = λ i d l k j b a m. periods_before_more (k + 1 + j) (omega arith)

pub soft_each : (slack : ℤ) (root : Tree) → length (all_below (interventions root) (each_run root soft_at))
    ≡ all_entries (tables slack root) periods_before
soft_each slack root = table_length slack root soft_at periods_before (soft_grow root)
