-- The offsets of one intervention, by period, then group.
use Rattle.std.specs.Prelude.{◌≡◌, ℕ, ◌+◌, ◌-◌, ◌*◌, ◌<◌, ◌≤◌, List, length, filter, Option, ◌==◌, slice_index}
use Rattle.instance_model.specs.Tables.{Tables}
use Rattle.refined_prices.specs.declared.group_tail.GroupTail.{GroupTail}
use Rattle.refined_prices.specs.declared.offset.Offset.{Offset}
use Rattle.refined_prices.specs.Offsets.{group_tail_at, group_count, offset_of}

-- the offsets of intervention i
abbrev pub own_offsets : List Offset → ℕ → List Offset
own_offsets offsets i = filter (λ x. x.intervention == i) offsets

-- no tail has more groups than the width of a row
pub record AreWithin (tails : List (Option GroupTail)) (width : ℕ) : Type 0 where
  pub few : width ≤ 1025
  pub each : (t : ℕ) → group_count (group_tail_at tails t) ≤ width

-- the place of group g in period t
abbrev pub group_place : ℕ → ℕ → ℕ → ℕ
group_place width t g = (t - 1) * width + g

-- a row has the offsets of intervention i by period, then group, and 0 where there is none
pub record IsOffsetRow (inst : Tables) (offsets : List Offset) (width i : ℕ) (row : List ℕ) : Type 0 where
  pub each : length row ≡ inst.periods * width
  pub at : (t g : ℕ) → 1 ≤ t → t ≤ inst.periods → g < width
      → slice_index row (group_place width t g) ≡ offset_of offsets t i g
