-- Defines the faults across a file, in the order in which they are looked for.
use Rattle.std.specs.Prelude.{ℕ, ◌+◌, ◌-◌, Bool, ◌&&◌, ◌==◌, List, [], ◌∷◌, Option, Some, None, cond, bytes_eq}
use Rattle.std.specs.Prelude.{slice_index, slice_index_or, length, nat_le, nat_lt, is_some, position}
use Rattle.instance_model.specs.Tables.{allowed_of}
use Rattle.instance_model.specs.Rules.{first_of, or_else}
use Rattle.json_grammar.specs.Tree.{Tree, tree, Node}
use Rattle.instance_shape.specs.declared.fault.Known.TheVariants as is
use Rattle.instance_shape.specs.LookUp.{Entry, elements, entries, keys, known, whole_at, text_at, periods, scenarios}
use Rattle.instance_shape.specs.LookUp.{interventions, durations, risk_list}

-- the list of scenario numbers hasn't one element per period; a band of a resource hasn't one limit per period; tmax is
-- outside 1 to T; Delta has fewer than tmax durations; a name is none of the file's; there is no list of risks in a
-- period at an allowed start; such a list hasn't as many numbers as the period has scenarios
pub data CrossFault : Type 0 where
  scenario_list : CrossFault
  band_length : (resource : List ℕ) → CrossFault
  bad_tmax : (intervention : List ℕ) → CrossFault
  no_delta : (intervention : List ℕ) → CrossFault
  unknown : (name : List ℕ) → CrossFault
  no_risk : (intervention : List ℕ) (period start : ℕ) → CrossFault
  scenario_count : (intervention : List ℕ) (period start : ℕ) → CrossFault

-- a fault, unless the test holds
abbrev pub unless : Bool → CrossFault → Option CrossFault
unless b f = cond b None (Some f)

-- the first among a list
abbrev pub first_in : {A : Type 0} → (A → Option CrossFault) → List A → Option CrossFault
first_in f [] = None
first_in f (x ∷ xs) = or_else (f x) (first_in f xs)

-- a resource has as many limits as there are periods
abbrev pub band_fault : ℕ → Entry → Option CrossFault
band_fault n r =
    unless ((length (elements (known is.Max r.value)) == n) && (length (elements (known is.Min r.value)) == n))
    (band_length r.key)

-- a name is one of a list
abbrev pub is_among : List (List ℕ) → List ℕ → Bool
is_among names name = is_some (position (bytes_eq name) names)

-- there is a list of risks in period t at start s, with as many numbers as the period has scenarios
abbrev pub risk_fault : List ℕ → List ℕ → ℕ → ℕ → Option (List Tree) → Option CrossFault
risk_fault counts name t s None = Some (no_risk name t s)
risk_fault counts name t s (Some xs) = unless (length xs == slice_index counts (t - 1)) (scenario_count name t s)

-- by allowed start, then by period of its run
abbrev pub risk_faults : Tree → Entry → Option CrossFault
risk_faults root i =
    first_of (length (durations i.value)) (λ k.
    cond (allowed_of (periods root) (durations i.value) (k + 1))
    (first_of (slice_index (durations i.value) k) (λ j.
    risk_fault (scenarios root) i.key (k + 1 + j) (k + 1) (risk_list i.value (k + 1 + j) (k + 1))))
    None)

-- tmax is outside 1 to T
abbrev pub tmax_fault : Tree → Entry → Option CrossFault
tmax_fault root i = unless
    (nat_le 1 (whole_at (known is.Tmax i.value)) && nat_le (whole_at (known is.Tmax i.value)) (periods root))
    (bad_tmax i.key)

-- Delta has fewer than tmax elements
abbrev pub delta_fault : Entry → Option CrossFault
delta_fault i =
    unless (nat_le (whole_at (known is.Tmax i.value)) (length (elements (known is.Delta i.value)))) (no_delta i.key)

-- the first key of the workload that names no resource
abbrev pub workload_fault : Tree → Entry → Option CrossFault
workload_fault root i = first_in (λ key. unless (is_among (keys (known is.Resources root)) key) (unknown key))
    (keys (known is.Workload i.value))

-- of one intervention
abbrev pub intervention_fault : Tree → Entry → Option CrossFault
intervention_fault root i =
    or_else (tmax_fault root i) (or_else (delta_fault i) (or_else (workload_fault root i) (risk_faults root i)))

-- the first of an exclusion's three texts that names no intervention or no season
abbrev pub word_fault : Tree → Entry → ℕ → Option CrossFault
word_fault root e k =
    let word = text_at (slice_index_or (elements e.value) k (tree 0 0 Node.null)) in
    unless (is_among (keys (known (cond (nat_lt k 2) is.Interventions is.Seasons) root)) word) (unknown word)

-- of one exclusion
abbrev pub exclusion_fault : Tree → Entry → Option CrossFault
exclusion_fault root e = first_of 3 (word_fault root e)

-- the list of scenario numbers hasn't one element per period
abbrev pub list_fault : Tree → Option CrossFault
list_fault root = unless (length (scenarios root) == periods root) scenario_list

-- the first resource with a band that hasn't one limit per period
abbrev pub band_faults : Tree → Option CrossFault
band_faults root = first_in (band_fault (periods root)) (entries (known is.Resources root))

-- the first of the interventions, in file order
abbrev pub intervention_faults : Tree → Option CrossFault
intervention_faults root = first_in (intervention_fault root) (interventions root)

-- the first of the exclusions, in file order
abbrev pub exclusion_faults : Tree → Option CrossFault
exclusion_faults root = first_in (exclusion_fault root) (entries (known is.Exclusions root))

-- the first fault across the file
abbrev pub cross_fault : Tree → Option CrossFault
cross_fault root =
    or_else (list_fault root) (or_else (band_faults root) (or_else (intervention_faults root) (exclusion_faults root)))
