-- Boxes that no leaf refutes.
use Rattle.std.specs.Prelude.{ℕ, ◌<◌, ◌≤◌, List, length}
use Rattle.instance_model.specs.Tables.{Tables}
use Rattle.lagrange_bound.specs.declared.span.Span.{Span}
use Rattle.lagrange_bound.specs.Boxes.{HasStarts}
use Rattle.certificate_lines.specs.declared.line.Side.{Side}
use Rattle.certificate_tree.specs.Holding.{BandHolds, ExclHolds}

-- each interval has an allowed start, and no `band` leaf and no `excl` leaf holds
pub record IsUnrefuted (inst : Tables) (box : List Span) : Type 0 where
  pub starts : HasStarts inst box
  pub bands : (c t : ℕ) (side : Side) → c < length inst.resource_names → 1 ≤ t → t ≤ inst.periods
      → ¬ BandHolds inst box c t side
  pub excls : (e : ℕ) → e < length inst.exclusion_names → ¬ ExclHolds inst box e
