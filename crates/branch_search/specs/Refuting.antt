-- Leaves that refute a box. Cited by private functions only: no part of any promise.
use Rattle.std.specs.Prelude.{ℕ, ◌<◌, ◌≤◌, List, length, slice_set}
use Rattle.instance_model.specs.Tables.{Tables, tmax}
use Rattle.lagrange_bound.specs.declared.span.Span.{Span}
use Rattle.lagrange_bound.specs.Boxes.{starts_in, span_of, IsBox}
use Rattle.certificate_tree.specs.declared.node.Node.{Node}
use Rattle.certificate_tree.specs.declared.node.Node.TheVariants.{Split, Cost, Point, Band, Excl, Empty}
use Rattle.certificate_lines.specs.declared.line.Side.{Side}
use Rattle.certificate_tree.specs.Holding.{BandHolds, ExclHolds}
use Rattle.branch_search.specs.node_state.Bands.{IsPart}
use Rattle.branch_search.specs.Boxes.{IsUnrefuted}

-- a `band` leaf of this resource and period that holds
pub record IsBandIn (inst : Tables) (box : List Span) (c t : ℕ) (side : Side) : Type 0 where
  pub resource : c < length inst.resource_names
  pub from : 1 ≤ t
  pub to : t ≤ inst.periods
  pub holds : BandHolds inst box c t side

-- an `excl` leaf that holds
pub record IsExclIn (inst : Tables) (box : List Span) (e : ℕ) : Type 0 where
  pub number : e < length inst.exclusion_names
  pub holds : ExclHolds inst box e

-- an interval without an allowed start
pub record IsEmptyIn (inst : Tables) (box : List Span) (i : ℕ) : Type 0 where
  pub number : i < length inst.names
  pub none : ¬ (0 < length (starts_in inst i (span_of box i)))

-- a `band`, an `excl` or an `empty` leaf that holds
abbrev pub IsRefuting : Tables → List Span → Node → Type 0
IsRefuting inst box (Split i m) = ⊥
IsRefuting inst box (Cost j) = ⊥
IsRefuting inst box Point = ⊥
IsRefuting inst box (Band c t side) = IsBandIn inst box c t side
IsRefuting inst box (Excl e) = IsExclIn inst box e
IsRefuting inst box (Empty i) = IsEmptyIn inst box i

-- ---- parts

-- no leaf refutes the box with one interval for i, and another one is a part of that
pub record IsPartOfUnrefuted (inst : Tables) (box : List Span) (i : ℕ) (whole part : Span) : Type 0 where
  pub end : whole.to ≤ tmax inst i
  pub within : IsPart part whole
  pub before : IsUnrefuted inst (slice_set box i whole)
  pub is_box : IsBox inst (slice_set box i part)
