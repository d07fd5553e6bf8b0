-- The tables of a text without a fault of shape have no more risks and load cells than the text has numbers under risk
-- and under workload: each of them is looked up under keys of its own.
use Rattle.std.proofs.Common.{◌≡◌, ◌≢◌, ℕ, ◌+◌, ◌-◌, ◌≤◌, Bool, true, false, cond, List, [], map, length, Option, Some}
use Rattle.std.proofs.Common.{None, refl, ◌∙◌, ap, arith, unwrap_or, option_map}
use Rattle.std.specs.Prelude.{AllPairs, slice_index, slice_index_or}
use Rattle.std.proofs.lemmas.List.{length-map}
use Rattle.std.proofs.lemmas.List.Sums.{sum_by-le-sum_by}
use Rattle.json_grammar.specs.Tree.{Tree, tree, Node}
use Rattle.instance_model.specs.Naturals.{count_sum}
use Rattle.instance_model.specs.Tables.{allowed_of}
use Rattle.instance_model.specs.declared.limits.Limits.{Limits}
use Rattle.instance_model.specs.declared.parts.LoadCell.{LoadCell}
use Rattle.instance_model.proofs.EntryLemmas.{allowed_facts, count_sum_same}
use Rattle.instance_shape.specs.declared.fault.Known.TheVariants as is
use Rattle.instance_shape.specs.declared.spot.Spot.TheVariants as spot
use Rattle.instance_shape.specs.ShapeFaults.{is_risk, is_workload}
use Rattle.instance_shape.specs.LookUp.{Entry, elements, keys, known, number_in, at_key, at_number, risk_list, workload}
use Rattle.instance_shape.specs.LookUp.{count_at, durations, periods, interventions}
use Rattle.instance_shape.specs.FileTables.{lists_below, all_below, each_run, risks_at, cell_of, cells_at}
use Rattle.instance_shape.proofs.Clear.{IsClear}
use Rattle.instance_shape.proofs.CountSums.{count_sum_below, count_sum_part, count_sum_swap, count_sum-places}
use Rattle.instance_shape.proofs.ListsBelow.{length-lists_below, length-all_below}
use Rattle.instance_shape.proofs.Weights.{weight_of, inner_weight, names_under, pairs_in, numbers_in, IsCounted}
use Rattle.instance_shape.proofs.Weights.{elements_counted, entries_counted, known_counted}

-- ---- runs

run_within : {A : Type 0} (root : Tree) (f : Tree → ℕ → ℕ → List A) (v : Tree) (k : ℕ) (a : Bool)
    → allowed_of (periods root) (durations v) (k + 1) ≡ a
    → length (cond a (lists_below (slice_index (durations v) k) (λ j. f v (k + 1) (k + 1 + j))) [])
    ≤ count_sum (periods root + 1) (λ t. length (f v (k + 1) t))
run_within root f v k true e =
    let d = slice_index (durations v) k in
    let same : k + 1 - 1 ≡ k = omega arith in
    let ends : k + 1 + d ≤ periods root + 1 =
    omega (arith, (allowed_facts (periods root) (durations v) (k + 1) e).2, ap (slice_index (durations v)) same) in
    omega (
      arith,
      length-lists_below d (λ j. f v (k + 1) (k + 1 + j)),
      count_sum_part (periods root + 1) (k + 1) d (λ t. length (f v (k + 1) t)) ends,
    )
run_within root f v k false e = omega arith

from_one : (n : ℕ) (f : ℕ → ℕ) → count_sum n (λ k. f (k + 1)) ≤ count_sum (1 + n) f
from_one n f = omega (
  arith,
  count_sum_part (1 + n) 1 n f (omega arith),
  count_sum_same n (λ k. f (k + 1)) (λ k. f (1 + k)) (λ k l. ap f (omega arith)),
)

-- what the allowed runs list is within what all periods and starts have
runs_within : {A : Type 0} (root : Tree) (f : Tree → ℕ → ℕ → List A) (v : Tree) → length (each_run root f v)
    ≤ count_sum (periods root + 1) (λ t. count_sum (1 + length (durations v)) (λ s. length (f v s t)))
runs_within root f v =
    let n = length (durations v) in
    let m = periods root + 1 in
    omega (
      arith,
      length-lists_below n (λ k. cond (allowed_of (periods root) (durations v) (k + 1))
          (lists_below (slice_index (durations v) k) (λ j. f v (k + 1) (k + 1 + j))) []),
      count_sum_below n
          (λ k. length
          (cond (allowed_of (periods root) (durations v) (k + 1))
          (lists_below (slice_index (durations v) k) (λ j. f v (k + 1) (k + 1 + j))) []))
          (λ k. count_sum m (λ t. length (f v (k + 1) t)))
          (λ k l. run_within root f v k (allowed_of (periods root) (durations v) (k + 1)) refl),
      from_one n (λ s. count_sum m (λ t. length (f v s t))),
      count_sum_swap (1 + n) m (λ s t. length (f v s t)),
    )

-- ---- risks

risk_count : (v : Tree) (t s : ℕ) → length (risks_at v s t) ≡ weight_of (λ q. length (elements q)) (number_in s
    (number_in t (Some (known is.Risk v))))
risk_count v t s =
    length-map (unwrap_or (risk_list v t s) []) count_at ∙ by (number_in s (at_number t (known is.Risk v)))
  where
    by : (o : Option Tree) → length (unwrap_or (option_map elements o) []) ≡ weight_of (λ q. length (elements q)) o
    by None = refl
    by (Some q) = refl

-- what the lists under the risk of an intervention weigh
abbrev risk_weight : Tree → ℕ
risk_weight v = inner_weight (inner_weight (λ q. length (elements q))) (known is.Risk v)

few_risks : (root v : Tree) → length (each_run root risks_at v) ≤ risk_weight v
few_risks root v =
    let n = 1 + length (durations v) in
    let m = periods root + 1 in
    omega (
      arith,
      runs_within root risks_at v,
      count_sum_same m (λ t. count_sum n (λ s. length (risks_at v s t)))
          (λ t. count_sum n
          (λ s. weight_of (λ q. length (elements q)) (number_in s (number_in t (Some (known is.Risk v))))))
          (λ t l. count_sum_same n (λ s. length (risks_at v s t)) _ (λ s k. risk_count v t s)),
      pairs_in (λ q. length (elements q)) m n (Some (known is.Risk v)),
    )

one_risk : (limits : Limits) → IsCounted limits is_risk spot.RiskNumber (λ t. 1)
one_risk limits (tree at end (Node.number x)) h = omega arith
one_risk limits (tree at end _) h = cc

risks_counted : (limits : Limits)
    → IsCounted limits is_risk spot.Root (λ root. inner_weight risk_weight (known is.Interventions root))
risks_counted limits =
    known_counted limits is_risk spot.Root is.Interventions (inner_weight risk_weight) refl
    (entries_counted limits is_risk spot.Interventions spot.Intervention risk_weight (λ key. refl)
    (known_counted limits is_risk spot.Intervention is.Risk
    (inner_weight (inner_weight (λ q. length (elements q)))) refl
    (entries_counted limits is_risk spot.Risk spot.RiskPeriod (inner_weight (λ q. length (elements q))) (λ key. refl)
    (entries_counted limits is_risk spot.RiskPeriod spot.RiskStart (λ q. length (elements q)) (λ key. refl)
    (elements_counted limits is_risk spot.RiskStart spot.RiskNumber (λ m. refl) (one_risk limits))))))

pub all_risks : (limits : Limits) (root : Tree) → IsClear limits spot.Root root
    → length (all_below (interventions root) (each_run root risks_at)) ≤ numbers_in is_risk spot.Root root
all_risks limits root h =
    omega (
      arith,
      length-all_below (each_run root risks_at) (interventions root),
      sum_by-le-sum_by (λ (e : Entry). length (each_run root risks_at e.value)) (λ (e : Entry). risk_weight e.value)
          (interventions root) (λ e. few_risks root e.value),
      risks_counted limits root h,
    )

-- ---- load cells

cell_count : (root v : Tree) (t s : ℕ)
    → length (cells_at root v s t) ≡ count_sum (length (keys (known is.Resources root))) (λ c. weight_of (λ x. 1)
    (number_in s
    (number_in t (at_key (slice_index_or (keys (known is.Resources root)) c []) (known is.Workload v)))))
cell_count root v t s =
    let names = keys (known is.Resources root) in
    length-lists_below (length names) (λ c. cell_of s t c (workload v (slice_index_or names c []) t s))
    ∙ count_sum_same (length names) (λ c. length (cell_of s t c (workload v (slice_index_or names c []) t s)))
    (λ c. weight_of (λ x. 1) (workload v (slice_index_or names c []) t s))
    (λ c l. by c (workload v (slice_index_or names c []) t s))
  where
    by : (c : ℕ) (o : Option Tree) → length (cell_of s t c o) ≡ weight_of (λ x. 1) o
    by c None = refl
    by c (Some x) = refl

-- how many values the workload of an intervention has under a resource, a period and a start
abbrev workload_weight : Tree → ℕ
workload_weight v = inner_weight (inner_weight (inner_weight (λ x. 1))) (known is.Workload v)

-- sums over three numbers, the last of which is put first
last_first : (m n c : ℕ) (f : ℕ → ℕ → ℕ → ℕ) → count_sum m (λ t. count_sum n (λ s. count_sum c (λ r. f t s r)))
    ≡ count_sum c (λ r. count_sum m (λ t. count_sum n (λ s. f t s r)))
last_first m n c f = count_sum_same m (λ t. count_sum n (λ s. count_sum c (λ r. f t s r))) _ (λ t l. count_sum_swap n c
    (λ s r. f t s r)) ∙ count_sum_swap m c (λ t r. count_sum n (λ s. f t s r))

few_cells : (root v : Tree) → AllPairs (λ x y. x ≢ y) (keys (known is.Resources root))
    → length (each_run root (cells_at root) v) ≤ workload_weight v
few_cells root v p =
    let names = keys (known is.Resources root) in
    let n = 1 + length (durations v) in
    let m = periods root + 1 in
    let under = λ (c : ℕ). at_key (slice_index_or names c []) (known is.Workload v) in
    omega (
      arith,
      runs_within root (cells_at root) v,
      count_sum_same m (λ t. count_sum n (λ s. length (cells_at root v s t)))
          (λ t. count_sum n
          (λ s. count_sum (length names) (λ c. weight_of (λ x. 1) (number_in s (number_in t (under c))))))
          (λ t l. count_sum_same n (λ s. length (cells_at root v s t)) _ (λ s k. cell_count root v t s)),
      last_first m n (length names) (λ t s c. weight_of (λ x. 1) (number_in s (number_in t (under c)))),
      count_sum_below (length names)
          (λ c. count_sum m (λ t. count_sum n (λ s. weight_of (λ x. 1) (number_in s (number_in t (under c))))))
          (λ c. weight_of (inner_weight (inner_weight (λ x. 1))) (under c))
          (λ c l. pairs_in (λ x. 1) m n (under c)),
      names_under (inner_weight (inner_weight (λ x. 1))) names (known is.Workload v) p,
    )

one_workload : (limits : Limits) → IsCounted limits is_workload spot.WorkloadNumber (λ t. 1)
one_workload limits (tree at end (Node.number x)) h = omega arith
one_workload limits (tree at end _) h = cc

workloads_counted : (limits : Limits) → IsCounted limits is_workload spot.Root (λ root. inner_weight workload_weight
    (known is.Interventions root))
workloads_counted limits =
    known_counted limits is_workload spot.Root is.Interventions (inner_weight workload_weight) refl
    (entries_counted limits is_workload spot.Interventions spot.Intervention workload_weight (λ key. refl)
    (known_counted limits is_workload spot.Intervention is.Workload
    (inner_weight (inner_weight (inner_weight (λ x. 1)))) refl
    (entries_counted limits is_workload spot.Workload spot.WorkloadResource
    (inner_weight (inner_weight (λ x. 1))) (λ key. refl)
    (entries_counted limits is_workload spot.WorkloadResource spot.WorkloadPeriod (inner_weight (λ x. 1)) (λ key. refl)
    (entries_counted limits is_workload spot.WorkloadPeriod spot.WorkloadNumber (λ x. 1) (λ key. refl)
    (one_workload limits))))))

pub all_cells : (limits : Limits) (root : Tree) → IsClear limits spot.Root root
    → AllPairs (λ x y. x ≢ y) (keys (known is.Resources root))
    → count_sum (length (keys (known is.Interventions root))) (λ i. length
    (slice_index_or (map (λ e. each_run root (cells_at root) e.value) (interventions root)) i []))
    ≤ numbers_in is_workload spot.Root root
all_cells limits root h p =
    let rows =
    λ (i : ℕ). length (slice_index_or (map (λ e. each_run root (cells_at root) e.value) (interventions root)) i []) in
    omega (
      arith,
      ap (λ n. count_sum n rows) (length-map (interventions root) (λ (e : Entry). e.key)),
      count_sum-places (λ (e : Entry). each_run root (cells_at root) e.value) (λ (r : List LoadCell). length r)
          [] (interventions root),
      sum_by-le-sum_by (λ (e : Entry). length (each_run root (cells_at root) e.value))
          (λ (e : Entry). workload_weight e.value) (interventions root) (λ e. few_cells root e.value p),
      workloads_counted limits root h,
    )
