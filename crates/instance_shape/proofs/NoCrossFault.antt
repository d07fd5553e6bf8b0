-- What the absence of a fault across a file says of its scenario list, resources, interventions and exclusions.
use Rattle.std.proofs.Common.{◌≡◌, ℕ, ◌+◌, ◌-◌, ◌<◌, ◌≤◌, Bool, true, false, cond, List, [], ◌∷◌, map, length, Option}
use Rattle.std.proofs.Common.{Some, None, refl, arith, bytes_eq, unwrap_or, position, is_some}
use Rattle.std.specs.Prelude.{All, slice_index, nat_le, ◌==◌}
use Rattle.std.proofs.lemmas.Bool.{and_parts, leb-true, eqb-true}
use Rattle.std.proofs.lemmas.List.{length-map, length-take-le}
use Rattle.std.proofs.lemmas.List.Elements.{All-nil, All-cons, All-weaker, All-map}
use Rattle.std.proofs.lemmas.List.Quantifiers.{position-Some}
use Rattle.json_grammar.specs.Tree.{Tree}
use Rattle.instance_model.specs.declared.parts.Exclusion.{Exclusion}
use Rattle.instance_model.specs.Rules.{or_else}
use Rattle.instance_model.specs.Tables.{allowed_of}
use Rattle.instance_model.proofs.FirstLemmas.{or_else-none, first_of_none}
use Rattle.instance_shape.specs.declared.fault.Known.TheVariants as is
use Rattle.instance_shape.specs.LookUp.{Entry, elements, entries, keys, known, whole_at, durations, risk_list, periods}
use Rattle.instance_shape.specs.LookUp.{scenarios, interventions}
use Rattle.instance_shape.specs.CrossFaults.{CrossFault, unless, first_in, is_among, list_fault, band_fault}
use Rattle.instance_shape.specs.CrossFaults.{band_faults, risk_fault, risk_faults, tmax_fault, delta_fault}
use Rattle.instance_shape.specs.CrossFaults.{workload_fault, intervention_fault, intervention_faults, word_fault}
use Rattle.instance_shape.specs.CrossFaults.{exclusion_fault, exclusion_faults, cross_fault}
use Rattle.instance_shape.specs.FileTables.{number_among, word, exclusion}

unless_none : (b : Bool) (f : CrossFault) → unless b f ≡ None → b ≡ true
unless_none true f h = refl
unless_none false f h = cc

first_in_none : {A : Type 0} (f : A → Option CrossFault) (xs : List A) → first_in f xs ≡ None → All (λ x. f x ≡ None) xs
first_in_none f [] h = All-nil (λ x. f x ≡ None)
first_in_none f (x ∷ xs) h = let both = or_else-none (f x) (first_in f xs) h in
    All-cons (λ x. f x ≡ None) x xs both.0 (first_in_none f xs both.1)

-- ---- the parts of the file

record HasNoFault (root : Tree) : Type 0 where
  list : list_fault root ≡ None
  bands : band_faults root ≡ None
  interventions : intervention_faults root ≡ None
  exclusions : exclusion_faults root ≡ None

no_fault : (root : Tree) → cross_fault root ≡ None → HasNoFault root
no_fault root h =
    let a = or_else-none (list_fault root)
    (or_else (band_faults root) (or_else (intervention_faults root) (exclusion_faults root))) h in
    let b = or_else-none (band_faults root) (or_else (intervention_faults root) (exclusion_faults root)) a.1 in
    let c = or_else-none (intervention_faults root) (exclusion_faults root) b.1 in
    record { list = a.0; bands = b.0; interventions = c.0; exclusions = c.1 }

-- the scenario list has an element for each period
pub scenarios_each : (root : Tree) → cross_fault root ≡ None → length (scenarios root) ≡ periods root
scenarios_each root h = eqb-true (length (scenarios root)) (periods root)
    (unless_none (length (scenarios root) == periods root) CrossFault.scenario_list (no_fault root h).list)

-- ---- resources

-- a resource has as many limits from above and from below as there are periods
pub record HasLimits (n : ℕ) (r : Tree) : Type 0 where
  pub upper : length (elements (known is.Max r)) ≡ n
  pub lower : length (elements (known is.Min r)) ≡ n

has_limits : (n : ℕ) (r : Entry) → band_fault n r ≡ None → HasLimits n r.value
has_limits n r h =
    let both = and_parts (length (elements (known is.Max r.value)) == n) (length (elements (known is.Min r.value)) == n)
    (unless_none _ (CrossFault.band_length r.key) h) in
    record {
      upper = eqb-true (length (elements (known is.Max r.value))) n both.0;
      lower = eqb-true (length (elements (known is.Min r.value))) n both.1;
    }

pub bands_each : (root : Tree) → cross_fault root ≡ None
    → All (λ r. HasLimits (periods root) r.value) (entries (known is.Resources root))
bands_each root h =
    All-weaker (λ r. band_fault (periods root) r ≡ None) (λ r. HasLimits (periods root) r.value)
    (has_limits (periods root)) (entries (known is.Resources root))
    (first_in_none (band_fault (periods root)) (entries (known is.Resources root)) (no_fault root h).bands)

-- ---- interventions

-- an intervention has from 1 to so many starts as there are periods, and the risks of each period of its allowed runs
pub record IsComplete (root v : Tree) : Type 0 where
  pub some_starts : 1 ≤ length (durations v)
  pub few_starts : length (durations v) ≤ periods root
  pub risks : (k j : ℕ) → k < length (durations v) → allowed_of (periods root) (durations v) (k + 1) ≡ true
      → j < slice_index (durations v) k
      → length (unwrap_or (risk_list v (k + 1 + j) (k + 1)) []) ≡ slice_index (scenarios root) (k + 1 + j - 1)

count_is : (counts name : List ℕ) (t s : ℕ) (o : Option (List Tree)) → risk_fault counts name t s o ≡ None
    → length (unwrap_or o []) ≡ slice_index counts (t - 1)
count_is counts name t s None h = cc
count_is counts name t s (Some xs) h = eqb-true (length xs) (slice_index counts (t - 1))
    (unless_none (length xs == slice_index counts (t - 1)) (CrossFault.scenario_count name t s) h)

cond_none : (b : Bool) (o : Option CrossFault) → b ≡ true → cond b o None ≡ None → o ≡ None
cond_none true o e h = h
cond_none false o e h = cc

risks_each : (root : Tree) (i : Entry) → risk_faults root i ≡ None → (k j : ℕ) → k < length (durations i.value)
    → allowed_of (periods root) (durations i.value) (k + 1) ≡ true → j < slice_index (durations i.value) k
    → length (unwrap_or (risk_list i.value (k + 1 + j) (k + 1)) []) ≡ slice_index (scenarios root) (k + 1 + j - 1)
risks_each root i h k j l a m =
    let run = cond_none (allowed_of (periods root) (durations i.value) (k + 1)) _ a
    (first_of_none (length (durations i.value)) _ h k l) in
    count_is (scenarios root) i.key (k + 1 + j) (k + 1) (risk_list i.value (k + 1 + j) (k + 1))
    (first_of_none (slice_index (durations i.value) k) _ run j m)

is_complete : (root : Tree) (i : Entry) → intervention_fault root i ≡ None → IsComplete root i.value
is_complete root i h =
    let v = i.value in
    let t = whole_at (known is.Tmax v) in
    let a = or_else-none (tmax_fault root i)
    (or_else (delta_fault i) (or_else (workload_fault root i) (risk_faults root i))) h in
    let b = or_else-none (delta_fault i) (or_else (workload_fault root i) (risk_faults root i)) a.1 in
    let c = or_else-none (workload_fault root i) (risk_faults root i) b.1 in
    let range = and_parts (nat_le 1 t) (nat_le t (periods root)) (unless_none _ (CrossFault.bad_tmax i.key) a.0) in
    let low = leb-true 1 t range.0 in
    let high = leb-true t (periods root) range.1 in
    let long = leb-true t (length (elements (known is.Delta v))) (unless_none _ (CrossFault.no_delta i.key) b.0) in
    let size : length (map whole_at (elements (known is.Delta v))) ≡ length (elements (known is.Delta v)) =
    length-map (elements (known is.Delta v)) whole_at in
    let starts : length (durations v) ≡ t =
    length-take-le t (map whole_at (elements (known is.Delta v))) (omega (arith, long, size)) in
    record {
      some_starts = omega (arith, starts, low);
      few_starts = omega (arith, starts, high);
      risks = risks_each root i c.1;
    }

pub interventions_complete : (root : Tree) → cross_fault root ≡ None
    → All (λ i. IsComplete root i.value) (interventions root)
interventions_complete root h =
    All-weaker (λ i. intervention_fault root i ≡ None) (λ i. IsComplete root i.value)
    (is_complete root) (interventions root)
    (first_in_none (intervention_fault root) (interventions root) (no_fault root h).interventions)

-- ---- exclusions

number_below : (names : List (List ℕ)) (name : List ℕ) → is_among names name ≡ true
    → number_among names name < length names
number_below names name h = by (position (bytes_eq name) names) refl h
  where
    by : (o : Option ℕ) → position (bytes_eq name) names ≡ o → is_some o ≡ true → unwrap_or o 0 < length names
    by None e h = cc
    by (Some i) e h = (position-Some (bytes_eq name) names i [] e).0

-- the numbers of an exclusion are those of an intervention, an intervention and a season
abbrev pub IsInFile : Tree → Exclusion → Type 0
IsInFile root x = (x.first < length (keys (known is.Interventions root)))
    × (x.second < length (keys (known is.Interventions root))) × (x.season < length (keys (known is.Seasons root)))

in_file : (root : Tree) (e : Entry) → exclusion_fault root e ≡ None → IsInFile root (exclusion root e.value)
in_file root e h =
    let each = first_of_none 3 (word_fault root e) h in (
      number_below (keys (known is.Interventions root)) (word e.value 0)
          (unless_none _ (CrossFault.unknown (word e.value 0)) (each 0 (omega arith))),
      number_below (keys (known is.Interventions root)) (word e.value 1)
          (unless_none _ (CrossFault.unknown (word e.value 1)) (each 1 (omega arith))),
      number_below (keys (known is.Seasons root)) (word e.value 2)
          (unless_none _ (CrossFault.unknown (word e.value 2)) (each 2 (omega arith))),
    )

pub exclusions_in : (root : Tree) → cross_fault root ≡ None
    → All (IsInFile root) (map (λ e. exclusion root e.value) (entries (known is.Exclusions root)))
exclusions_in root h =
    All-map (IsInFile root) (λ (e : Entry). exclusion root e.value) (entries (known is.Exclusions root))
    (All-weaker (λ e. exclusion_fault root e ≡ None) (λ e. IsInFile root (exclusion root e.value)) (in_file root)
    (entries (known is.Exclusions root))
    (first_in_none (exclusion_fault root) (entries (known is.Exclusions root)) (no_fault root h).exclusions))
