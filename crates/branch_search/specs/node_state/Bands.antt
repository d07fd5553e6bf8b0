-- Which bands hold on a box, and which may hold once one interval has changed.
use Rattle.std.specs.Prelude.{ℕ, ◌<◌, ◌≤◌, List, length}
use Rattle.instance_model.specs.Tables.{Tables}
use Rattle.lagrange_bound.specs.declared.span.Span.{Span}
use Rattle.certificate_lines.specs.declared.line.Side.{Side}
use Rattle.certificate_tree.specs.Holding.{BandHolds}
use Rattle.branch_search.specs.declared.node_state.band.Band.{Band}

-- a resource of the instance and a period of its horizon
pub record IsBand (inst : Tables) (c t : ℕ) : Type 0 where
  pub resource : c < length inst.resource_names
  pub from : 1 ≤ t
  pub to : t ≤ inst.periods

-- the band is one of the instance, and holds on the box
pub record IsHoldingBand (inst : Tables) (box : List Span) (band : Band) : Type 0 where
  pub is_band : IsBand inst band.c band.t
  pub holds : BandHolds inst box band.c band.t band.side

-- no band holds on the box
abbrev pub NoBandHolds : Tables → List Span → Type 0
NoBandHolds inst box = (c t : ℕ) (side : Side) → IsBand inst c t → ¬ BandHolds inst box c t side

-- an interval lies within another
pub record IsPart (part whole : Span) : Type 0 where
  pub from : whole.from ≤ part.from
  pub to : part.to ≤ whole.to
