-- The cap of a lower limit. A plan that keeps the limit keeps it also where no load counts for more than the cap: one
-- load above it outweighs all that the others can take away.
use Rattle.std.specs.Prelude.{ℕ, ℤ, pos, ◌+ℤ◌, ◌-ℤ◌, ◌≤ℤ◌, Bool, List, length, map, Option, Some, if◌then◌else◌}
use Rattle.std.specs.Int.{int_min, int_max}
use Rattle.fixed_num.specs.Sums.{sum_below}
use Rattle.instance_model.specs.Tables.{Tables, tmax, lower_of}
use Rattle.instance_model.specs.Plans.{start_of, AreAllowedStarts, load_at, load_sum}
use Rattle.lagrange_bound.specs.Boxes.{starts_in}
use Rattle.lagrange_bound.specs.Least.{least_over}

-- the starts that intervention i may have
abbrev pub allowed_starts : Tables → ℕ → List ℕ
allowed_starts inst i = starts_in inst i (record { from = 1; to = tmax inst i })

-- the least load of resource c in period t that intervention i adds at an allowed start; a run without t adds 0
unfoldable pub least_load : Tables → ℕ → ℕ → ℕ → ℤ
least_load inst c t i = least_over (λ s. load_at inst c t i (Some s)) (allowed_starts inst i)

-- the most that intervention i can take away from the load of resource c in period t
unfoldable pub most_taken : Tables → ℕ → ℕ → ℕ → ℤ
most_taken inst c t i = int_max (pos 0) (pos 0 -ℤ least_load inst c t i)

-- the cap of the lower limit of resource c in period t: the limit, or 0 where that is negative, and what all
-- interventions together can take away
unfoldable pub cap_of : Tables → ℕ → ℕ → ℤ
cap_of inst c t = int_max (pos 0) (lower_of inst c t) +ℤ sum_below (length inst.names) (most_taken inst c t)

-- the load that an intervention adds at a start, counted up to the cap where this is asked for
unfoldable pub counted_load : Tables → Bool → ℕ → ℕ → ℕ → Option ℕ → ℤ
counted_load inst capped c t i start =
    if capped then int_min (load_at inst c t i start) (cap_of inst c t) else load_at inst c t i start

-- the sum of the counted loads of a plan
unfoldable pub counted_sum : Tables → Bool → List (Option ℕ) → ℕ → ℕ → ℤ
counted_sum inst capped plan c t =
    sum_below (length inst.names) (λ i. counted_load inst capped c t i (start_of plan i))

-- ---- the law

-- a plan of allowed starts that keeps a lower limit keeps it also by its counted loads
abbrev pub CapKeepsLowerLimit : Tables → Type 0
CapKeepsLowerLimit inst =
    (capped : Bool) (starts : List ℕ) (c t : ℕ) → AreAllowedStarts inst starts
    → lower_of inst c t ≤ℤ load_sum inst (map Some starts) c t
    → lower_of inst c t ≤ℤ counted_sum inst capped (map Some starts) c t
