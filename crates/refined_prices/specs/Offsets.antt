-- Offsets: what a group of a period's tail counts more, by intervention.
use Rattle.std.specs.Prelude.{◌≡◌, ℕ, ◌-◌, ◌<◌, ◌≤◌, ◌⊎◌, Bool, ◌&&◌, List, [], ◌∷◌, length, Option, Some, None}
use Rattle.std.specs.Prelude.{slice_index_or, ◌==◌, if◌then◌else◌}
use Rattle.instance_model.specs.Tables.{Tables}
use Rattle.refined_prices.specs.declared.group_tail.GroupTail.{GroupTail}
use Rattle.refined_prices.specs.declared.offset.Offset.{Offset}

-- the tail of period t, of tails by period
abbrev pub group_tail_at : List (Option GroupTail) → ℕ → Option GroupTail
group_tail_at tails t = slice_index_or tails (t - 1) None

-- how many groups a tail has
abbrev pub group_count : Option GroupTail → ℕ
group_count None = 0
group_count (Some tail) = length tail.groups

-- an offset is that of period t, intervention i and group g
abbrev pub is_offset_of : ℕ → ℕ → ℕ → Offset → Bool
is_offset_of t i g x = (x.period == t) && (x.intervention == i) && (x.group == g)

-- the offset of period t, intervention i and group g: 0 where the list has none
unfoldable pub offset_of : List Offset → ℕ → ℕ → ℕ → ℕ
offset_of [] t i g = 0
offset_of (x ∷ xs) t i g = if is_offset_of t i g x then x.value else offset_of xs t i g

-- an offset that isn't 0, of an intervention and a group of a period's tail
pub record IsOffset (inst : Tables) (tails : List (Option GroupTail)) (x : Offset) : Type 0 where
  pub from : 1 ≤ x.period
  pub to : x.period ≤ inst.periods
  pub number : x.intervention < length inst.names
  pub group : x.group < group_count (group_tail_at tails x.period)
  pub some : 1 ≤ x.value
  pub small : x.value ≤ 1_000_000_000

-- by period, then intervention, then group
abbrev pub OffsetBefore : Offset → Offset → Type 0
OffsetBefore a b = (a.period < b.period) ⊎ ((a.period ≡ b.period) × ((a.intervention < b.intervention)
    ⊎ ((a.intervention ≡ b.intervention) × (a.group < b.group))))
