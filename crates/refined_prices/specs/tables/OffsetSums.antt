-- The sums of all offsets of each group of each period.
use Rattle.std.specs.Prelude.{◌≡◌, ℕ, ◌+◌, ◌*◌, ◌<◌, ◌≤◌, ◌&&◌, List, [], ◌∷◌, length, ◌==◌, if◌then◌else◌, slice_index}
use Rattle.instance_model.specs.Tables.{Tables}
use Rattle.refined_prices.specs.declared.offset.Offset.{Offset}
use Rattle.refined_prices.specs.tables.OffsetRows.{group_place}

-- the sum of the offsets of group g in period t
unfoldable pub group_total : List Offset → ℕ → ℕ → ℕ
group_total [] t g = 0
group_total (x ∷ xs) t g = (if (x.period == t) && (x.group == g) then x.value else 0) + group_total xs t g

-- numbers by period, then group, are these sums
pub record AreOffsetSums (inst : Tables) (offsets : List Offset) (width : ℕ) (numbers : List ℕ) : Type 0 where
  pub each : length numbers ≡ inst.periods * width
  pub at : (t g : ℕ) → 1 ≤ t → t ≤ inst.periods → g < width
      → slice_index numbers (group_place width t g) ≡ group_total offsets t g
