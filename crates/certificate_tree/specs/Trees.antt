-- Trees of boxes. A split of intervention i after start m has a left part with the starts up to m,
-- and a right part with those from m + 1 on.
use Rattle.std.specs.Prelude.{◌≡◌, ℕ, ◌+◌, ◌<◌, ◌≤◌, List, [], ◌∷◌, ◌++◌, length, map, slice_index, slice_set}
use Rattle.std.specs.List.{range_with_len}
use Rattle.instance_model.specs.Tables.{Tables, tmax}
use Rattle.lagrange_bound.specs.declared.span.Span.{Span}
use Rattle.lagrange_bound.specs.Boxes.{span_of}
use Rattle.certificate_tree.specs.declared.node.Node.{Node}
use Rattle.certificate_tree.specs.declared.node.Node.TheVariants.{Split}

-- a tree: a leaf, or a split of intervention i after start m and its two parts
pub data Tree : Type 0 where
  leaf : Node → Tree
  split : ℕ → ℕ → Tree → Tree → Tree

-- the nodes of a tree: a split, then those of its left part, then those of its right part
abbrev pub pre_order : Tree → List Node
pre_order (leaf n) = n ∷ []
pre_order (split i m l r) = Split i m ∷ (pre_order l ++ pre_order r)

-- ---- boxes

-- every start of each intervention
abbrev pub root_box : Tables → List Span
root_box inst = map (λ i. record { from = 1; to = tmax inst i }) (range_with_len 0 (length inst.names))

-- the left part of a box
abbrev pub below : List Span → ℕ → ℕ → List Span
below box i m = slice_set box i (record { from = (span_of box i).from; to = m })

-- the right part
abbrev pub above : List Span → ℕ → ℕ → List Span
above box i m = slice_set box i (record { from = m + 1; to = (span_of box i).to })

-- the interval of i has a start up to m, and one after it
pub record IsSplit (box : List Span) (i m : ℕ) : Type 0 where
  pub number : i < length box
  pub from : (span_of box i).from ≤ m
  pub to : m < (span_of box i).to

-- one start for each interval, within it
pub record AreStartsIn (box : List Span) (starts : List ℕ) : Type 0 where
  pub each : length starts ≡ length box
  pub from : (i : ℕ) → i < length box → (span_of box i).from ≤ slice_index starts i
  pub to : (i : ℕ) → i < length box → slice_index starts i ≤ (span_of box i).to

-- ---- leaves

-- a leaf and the box that it stands for
pub record Leaf : Type 0 where
  pub box : List Span
  pub node : Node

-- the leaves of a tree over a box, in the order of its nodes
abbrev pub leaves : List Span → Tree → List Leaf
leaves box (leaf n) = (record { box = box; node = n }) ∷ []
leaves box (split i m l r) = leaves (below box i m) l ++ leaves (above box i m) r
