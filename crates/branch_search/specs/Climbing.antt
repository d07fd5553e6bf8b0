-- How the box of a number is made afresh, from the number up to the root. Cited by private functions only: no part of
-- any promise.
use Rattle.std.specs.Prelude.{◌≡◌, ℕ, ◌+◌, ◌<◌, ◌≤◌, List, length, max, min, slice_set, ◌==◌, if◌then◌else◌}
use Rattle.instance_model.specs.Tables.{Tables, tmax}
use Rattle.lagrange_bound.specs.declared.span.Span.{Span}
use Rattle.lagrange_bound.specs.Boxes.{span_of}
use Rattle.branch_search.specs.declared.tree.cell.Cell.{Cell}
use Rattle.branch_search.specs.Growing.{AreBoxesOf, box_at}

-- the part of an interval up to a start, and that after it
abbrev pub cut_above : Span → ℕ → Span
cut_above span m = record { from = span.from; to = min span.to m }

abbrev pub cut_below : Span → ℕ → Span
cut_below span m = record { from = max span.from (m + 1); to = span.to }

-- intervals cut to the part with number k of a split of i after m
abbrev pub narrowed : List Span → Cell → ℕ → (i m : ℕ) → List Span
narrowed box cell k i m =
    slice_set box i (if cell.left == k then cut_above (span_of box i) m else cut_below (span_of box i) m)

-- a box is what two others have in common
pub record IsCommon (inst : Tables) (target here spans : List Span) : Type 0 where
  pub each : length spans ≡ length inst.names
  pub from : (j : ℕ) → j < length inst.names
      → (span_of target j).from ≡ max (span_of here j).from (span_of spans j).from
  pub to : (j : ℕ) → j < length inst.names → (span_of target j).to ≡ min (span_of here j).to (span_of spans j).to
  pub one : (j : ℕ) → j < length inst.names → 1 ≤ (span_of spans j).from
  pub most : (j : ℕ) → j < length inst.names → (span_of spans j).to ≤ tmax inst j

-- the same of the boxes of two numbers, whatever the boxes of the cells are
abbrev pub IsClimbed : Tables → List Cell → (number k : ℕ) → List Span → Type 0
IsClimbed inst cells number k spans = (boxes : List (List Span)) → AreBoxesOf inst cells boxes
    → IsCommon inst (box_at boxes number) (box_at boxes k) spans
