-- The least and the greatest load of one place over starts that come one after another. Cited by private functions
-- only: no part of any promise.
use Rattle.std.specs.Prelude.{◌≡◌, ℕ, ◌+◌, ◌*◌, ◌<◌, ◌≤◌, ◌⊎◌, ℤ, pos, ◌+ℤ◌, ◌-ℤ◌, ◌==◌, nat_lt, List, length}
use Rattle.std.specs.Prelude.{slice_index_or}
use Rattle.std.specs.Prelude.{unsigned_abs, if◌then◌else◌}
use Rattle.instance_model.specs.Tables.{Tables}
use Rattle.lagrange_bound.specs.declared.span.Span.{Span}
use Rattle.certificate_lines.specs.declared.line.Side.{Side}
use Rattle.certificate_lines.specs.declared.line.Side.TheVariants.{Over, Under}
use Rattle.certificate_tree.specs.Loads.{load_by_start}
use Rattle.certificate_tree.specs.Extremes.{extreme, extreme_over}
use Rattle.branch_search.specs.declared.node_state.extent.Extent.{Extent}
use Rattle.branch_search.specs.declared.node_state.range.LoadRange.{LoadRange}
use Rattle.branch_search.specs.node_state.KeptLoads.{place_of}

-- no start so far
abbrev pub no_extent : Extent
no_extent = record { counted = 0; least = pos 0; greatest = pos 0 }

-- the end of an extent that is to be over its limit, or under it
abbrev pub end_of : Side → Extent → ℤ
end_of Over e = e.least
end_of Under e = e.greatest

-- that of the first n starts, where those behind the last load have none
abbrev pub end_to : Side → Extent → ℕ → ℤ
end_to side e n = if nat_lt e.counted n then extreme side (end_of side e) (pos 0) else end_of side e

-- that of n starts and the next one, which has this load
abbrev pub end_with : Side → Extent → ℕ → ℤ → ℤ
end_with side e n z = if n == 0 then z else extreme side (end_to side e n) z

-- n starts came before, and the next one has this load
abbrev pub taken : Extent → ℕ → ℤ → Extent
taken e n z = record { counted = n + 1; least = end_with Over e n z; greatest = end_with Under e n z }

-- what stands at a place of a list of extents
abbrev pub extent_at : List Extent → ℕ → Extent
extent_at extents z = slice_index_or extents z no_extent

-- the extent is that of f over these starts
pub record IsExtentOf (f : ℕ → ℤ) (ks : List ℕ) (e : Extent) : Type 0 where
  pub counted : e.counted ≤ length ks
  pub ends : (side : Side) → end_to side e (length ks) ≡ extreme_over side f ks

-- the extents are those of the loads of intervention i over these starts, by resource, then period
pub record AreExtentsOf (inst : Tables) (i : ℕ) (ks : List ℕ) (extents : List Extent) : Type 0 where
  pub each : length extents ≡ length inst.resource_names * inst.periods
  pub extent : (c t : ℕ) → c < length inst.resource_names → 1 ≤ t → t ≤ inst.periods
      → IsExtentOf (load_by_start inst c t i) ks (extent_at extents (place_of inst c t))

-- n starts came before, and the next one has this load; one of 0 may have been passed over
abbrev pub IsTaken : ℕ → ℤ → Extent → Extent → Type 0
IsTaken n z old new = (new ≡ taken old n z) ⊎ ((new ≡ old) × (z ≡ pos 0))

-- ---- ranges

-- the end of a range that is to be over its limit, or under it
abbrev pub range_end : Side → LoadRange → ℤ
range_end Over range = range.least
range_end Under range = range.greatest

-- both ends of a range are small
abbrev pub IsSmallRange : LoadRange → Type 0
IsSmallRange range = (side : Side) → unsigned_abs (range_end side range) ≤ 1_000_000_000_000_000_000_000_000

-- the end of a range once the loads of m starts have taken the place of those of n others
abbrev pub end_replaced : Side → LoadRange → Extent → ℕ → Extent → ℕ → ℤ
end_replaced side range before n after m = (range_end side range +ℤ end_to side after m) -ℤ end_to side before n

-- the range once they have
abbrev pub replaced : LoadRange → Extent → ℕ → Extent → ℕ → LoadRange
replaced range before n after m =
    record {
      least = end_replaced Over range before n after m;
      greatest = end_replaced Under range before n after m;
    }

-- ---- boxes

-- an interval without a start
abbrev pub empty_span : Span
empty_span = record { from = 1; to = 0 }
