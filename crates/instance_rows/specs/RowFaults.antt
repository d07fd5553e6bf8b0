-- Defines the faults across a file by its rows.
use Rattle.std.specs.Prelude.{ℕ, ◌+◌, ◌-◌, Bool, ◌&&◌, ◌==◌, List, [], Option, Some, None, cond, find, take, length}
use Rattle.std.specs.Prelude.{nat_le, nat_lt, slice_index, slice_index_or}
use Rattle.instance_model.specs.Rules.{first_of, or_else}
use Rattle.instance_model.specs.Tables.{allowed_of}
use Rattle.instance_shape.specs.CrossFaults.{CrossFault, scenario_list, band_length, bad_tmax, no_delta, unknown}
use Rattle.instance_shape.specs.CrossFaults.{no_risk, scenario_count, unless, first_in, is_among}
use Rattle.instance_rows.specs.FileRows.{BandRow, WorkloadRow, WorkRow, FileRows}
use Rattle.instance_model.specs.RiskLists.{RiskRow}

abbrev pub no_band : BandRow
no_band = record { most = []; least = [] }

abbrev pub no_work : WorkRow
no_work = record { tmax = 0; durations = []; workloads = []; risks = [] }

-- a resource has as many limits as there are periods
abbrev pub band_fault : ℕ → List ℕ → BandRow → Option CrossFault
band_fault periods name b = unless ((length b.most == periods) && (length b.least == periods)) (band_length name)

-- the durations by start; those after the first tmax are ignored
abbrev pub used_durations : WorkRow → List ℕ
used_durations w = take w.tmax w.durations

-- a list of risks is that in period t at start s
abbrev pub is_list_at : ℕ → ℕ → RiskRow → Bool
is_list_at t s r = (r.period == t) && (r.start == s)

-- there is a list of risks in period t at start s, with as many numbers as the period has scenarios
abbrev pub list_fault : List ℕ → List ℕ → ℕ → ℕ → Option RiskRow → Option CrossFault
list_fault counts name t s None = Some (no_risk name t s)
list_fault counts name t s (Some r) = unless (length r.values == slice_index counts (t - 1)) (scenario_count name t s)

-- by period of the run at start s
abbrev pub run_fault : List ℕ → List ℕ → List RiskRow → ℕ → ℕ → Option CrossFault
run_fault counts name risks s d = first_of d (λ j. list_fault counts name (s + j) s (find (is_list_at (s + j) s) risks))

-- by allowed start
abbrev pub runs_fault : ℕ → List ℕ → List ℕ → List ℕ → List RiskRow → Option CrossFault
runs_fault periods counts name ds risks =
    first_of (length ds)
    (λ k. cond (allowed_of periods ds (k + 1)) (run_fault counts name risks (k + 1) (slice_index ds k)) None)

-- tmax is outside 1 to the number of periods
abbrev pub tmax_fault : ℕ → List ℕ → WorkRow → Option CrossFault
tmax_fault periods name w = unless (nat_le 1 w.tmax && nat_le w.tmax periods) (bad_tmax name)

-- there are fewer than tmax durations
abbrev pub delta_fault : List ℕ → WorkRow → Option CrossFault
delta_fault name w = unless (nat_le w.tmax (length w.durations)) (no_delta name)

-- a workload names a resource
abbrev pub workload_fault : List (List ℕ) → WorkloadRow → Option CrossFault
workload_fault resources w = unless (is_among resources w.resource) (unknown w.resource)

-- of one intervention
abbrev pub work_fault : FileRows → List ℕ → WorkRow → Option CrossFault
work_fault rows name w =
    or_else (tmax_fault rows.periods name w)
    (or_else (delta_fault name w) (or_else (first_in (workload_fault rows.resources) w.workloads)
    (runs_fault rows.periods rows.scenarios name (used_durations w) w.risks)))

-- word k of an exclusion names an intervention, word 2 a season
abbrev pub word_fault : FileRows → List (List ℕ) → ℕ → Option CrossFault
word_fault rows words k =
    unless (is_among (cond (nat_lt k 2) rows.interventions rows.seasons) (slice_index_or words k []))
    (unknown (slice_index_or words k []))

-- of one exclusion
abbrev pub exclusion_fault : FileRows → List (List ℕ) → Option CrossFault
exclusion_fault rows words = first_of 3 (word_fault rows words)

-- there is one number of scenarios for each period
abbrev pub scenarios_fault : FileRows → Option CrossFault
scenarios_fault rows = unless (length rows.scenarios == rows.periods) scenario_list

-- of resource i
abbrev pub band_fault_at : FileRows → ℕ → Option CrossFault
band_fault_at rows i =
    band_fault rows.periods (slice_index_or rows.resources i []) (slice_index_or rows.bands i no_band)

-- of intervention i
abbrev pub work_fault_at : FileRows → ℕ → Option CrossFault
work_fault_at rows i = work_fault rows (slice_index_or rows.interventions i []) (slice_index_or rows.works i no_work)

-- of exclusion i
abbrev pub exclusion_fault_at : FileRows → ℕ → Option CrossFault
exclusion_fault_at rows i = exclusion_fault rows (slice_index_or rows.exclusion_words i [])

-- the first of the resources
abbrev pub bands_fault : FileRows → Option CrossFault
bands_fault rows = first_of (length rows.bands) (band_fault_at rows)

-- the first of the interventions
abbrev pub works_fault : FileRows → Option CrossFault
works_fault rows = first_of (length rows.works) (work_fault_at rows)

-- the first of the exclusions
abbrev pub exclusions_fault : FileRows → Option CrossFault
exclusions_fault rows = first_of (length rows.exclusion_words) (exclusion_fault_at rows)

-- the first fault across the file
abbrev pub rows_fault : FileRows → Option CrossFault
rows_fault rows =
    or_else (scenarios_fault rows) (or_else (bands_fault rows) (or_else (works_fault rows) (exclusions_fault rows)))
