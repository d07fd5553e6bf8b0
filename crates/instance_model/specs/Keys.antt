-- What a plan of allowed starts is measured by on the way to a feasible one, its neighbours, and the opening plan.
use Rattle.std.specs.Prelude.{◌≡◌, ℕ, ◌+◌, ◌*◌, ◌<◌, ◌≤◌, ℤ, pos, ◌+ℤ◌, ◌-ℤ◌, ◌<ℤ◌, ◌⊎◌, List, length, map, Option}
use Rattle.std.specs.Prelude.{Some, IsTrue, is_some, if◌then◌else◌, slice_set, slice_index, ◌↔◌}
use Rattle.std.specs.List.{swap}
use Rattle.std.specs.Int.{int_max}
use Rattle.fixed_num.specs.Sums.{sum_below}
use Rattle.instance_model.specs.declared.key.Key.{Key}
use Rattle.instance_model.specs.Naturals.{count_sum}
use Rattle.instance_model.specs.Tables.{Tables, is_allowed, upper_of, lower_of}
use Rattle.instance_model.specs.Plans.{AreAllowedStarts, load_sum}
use Rattle.instance_model.specs.Values.{score_of}
use Rattle.instance_model.specs.Rules.{clash_rule_at, IsFeasible}

-- how far the load of resource c in period t is above its upper limit, and how far below its lower one, in counts
unfoldable pub band_gap : Tables → List (Option ℕ) → ℕ → ℕ → ℤ
band_gap inst plan c t = int_max (pos 0) (load_sum inst plan c t -ℤ upper_of inst c t)
    +ℤ int_max (pos 0) (lower_of inst c t -ℤ load_sum inst plan c t)

-- how far all loads are outside their limits, in counts
unfoldable pub band_gaps : Tables → List (Option ℕ) → ℤ
band_gaps inst plan =
    sum_below (length inst.resource_names) (λ c. sum_below inst.periods (λ u. band_gap inst plan c (u + 1)))

-- how many exclusions are broken
unfoldable pub clash_count : Tables → List (Option ℕ) → ℕ
clash_count inst plan =
    count_sum (length inst.exclusion_names) (λ e. if is_some (clash_rule_at inst plan e) then 1 else 0)

-- how far all loads are outside their limits, and 10^12 for each broken exclusion
unfoldable pub violation_of : Tables → List (Option ℕ) → ℤ
violation_of inst plan = band_gaps inst plan +ℤ pos (1_000_000_000_000 * clash_count inst plan)

-- by what plans are compared
abbrev pub key_of : Tables → List (Option ℕ) → Key
key_of inst plan = record { violation = violation_of inst plan; score = score_of inst plan }

-- a key is lower: by its violation, and where that is the same by its score
abbrev pub KeyBelow : Key → Key → Type 0
KeyBelow a b = (a.violation <ℤ b.violation) ⊎ ((a.violation ≡ b.violation) × (a.score <ℤ b.score))

-- a plan of allowed starts has no violation exactly where it is feasible
abbrev pub NoViolationMeansFeasible : Tables → Type 0
NoViolationMeansFeasible inst = (starts : List ℕ) → AreAllowedStarts inst starts
    → (violation_of inst (map Some starts) ≡ pos 0) ↔ IsFeasible inst (map Some starts)

-- ---- neighbours

-- the start of intervention i is changed to an allowed one
pub record IsMove (inst : Tables) (old new : List ℕ) (i s : ℕ) : Type 0 where
  pub each : length old ≡ length inst.names
  pub number : i < length inst.names
  pub allowed : IsTrue (is_allowed inst i s)
  pub moved : new ≡ slice_set old i s

-- the starts of two interventions are exchanged, and both are allowed there
pub record IsSwap (inst : Tables) (old new : List ℕ) (i j : ℕ) : Type 0 where
  pub each : length old ≡ length inst.names
  pub first : i < length inst.names
  pub second : j < length inst.names
  pub first_allowed : IsTrue (is_allowed inst i (slice_index old j))
  pub second_allowed : IsTrue (is_allowed inst j (slice_index old i))
  pub swapped : new ≡ swap old i j

-- one start is changed to an allowed one, or the starts of two interventions are exchanged
abbrev pub IsNeighbour : Tables → List ℕ → List ℕ → Type 0
IsNeighbour inst old new = ((i : ℕ) × (s : ℕ) × IsMove inst old new i s) ⊎ ((i : ℕ) × (j : ℕ) × IsSwap inst old new i j)

-- ---- the opening plan

-- each intervention has its least allowed start
pub record IsOpening (inst : Tables) (starts : List ℕ) : Type 0 where
  pub allowed : AreAllowedStarts inst starts
  pub least : (i s : ℕ) → i < length inst.names → IsTrue (is_allowed inst i s) → slice_index starts i ≤ s
