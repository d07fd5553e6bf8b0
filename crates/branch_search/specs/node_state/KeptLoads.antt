-- A box, and what is kept of the loads over its allowed starts. Loads are counts of 10^-12.
use Rattle.std.specs.Prelude.{◌≡◌, ℕ, ◌+◌, ◌-◌, ◌*◌, ◌<◌, ◌≤◌, pos, List, length, slice_index_or}
use Rattle.instance_model.specs.Tables.{Tables, tmax}
use Rattle.lagrange_bound.specs.declared.span.Span.{Span}
use Rattle.lagrange_bound.specs.Boxes.{span_of}
use Rattle.certificate_tree.specs.Loads.{least_load, greatest_load}
use Rattle.branch_search.specs.declared.node_state.range.LoadRange.{LoadRange}

-- the place of resource c in period t in a list by resource, then period
abbrev pub place_of : Tables → ℕ → ℕ → ℕ
place_of inst c t = c * inst.periods + (t - 1)

-- a box, and the least and the greatest load of each resource and period, by resource, then period
pub record KeptLoads : Type 0 where
  pub spans : List Span
  pub loads : List LoadRange

-- the loads from 0 to 0
abbrev pub no_load : LoadRange
no_load = record { least = pos 0; greatest = pos 0 }

-- what is kept of resource c in period t
abbrev pub kept_range : Tables → KeptLoads → ℕ → ℕ → LoadRange
kept_range inst v c t = slice_index_or v.loads (place_of inst c t) no_load

-- the least and the greatest load that a box has of resource c in period t
pub record IsRangeOf (inst : Tables) (box : List Span) (c t : ℕ) (range : LoadRange) : Type 0 where
  pub least : range.least ≡ least_load inst box c t
  pub greatest : range.greatest ≡ greatest_load inst box c t

-- the box has an interval for each intervention, none behind its last start, and what is kept is what its loads come to
pub record IsOver (inst : Tables) (v : KeptLoads) : Type 0 where
  pub each : length v.spans ≡ length inst.names
  pub ends : (i : ℕ) → i < length inst.names → (span_of v.spans i).to ≤ tmax inst i
  pub places : length v.loads ≡ length inst.resource_names * inst.periods
  pub loads : (c t : ℕ) → c < length inst.resource_names → 1 ≤ t → t ≤ inst.periods
      → IsRangeOf inst v.spans c t (kept_range inst v c t)
