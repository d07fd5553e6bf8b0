-- The splits of a tree: their boxes, and how many there are among nodes.
use Rattle.std.specs.Prelude.{ℕ, ◌+◌, List, [], ◌∷◌, ◌++◌}
use Rattle.lagrange_bound.specs.declared.span.Span.{Span}
use Rattle.certificate_tree.specs.declared.node.Node.{Node}
use Rattle.certificate_tree.specs.declared.node.Node.TheVariants.{Split, Cost, Point, Band, Excl, Empty}
use Rattle.certificate_tree.specs.Trees.{Tree, leaf, split, below, above}

-- the boxes of the splits of a tree over a box, in the order of its nodes
abbrev pub split_boxes : List Span → Tree → List (List Span)
split_boxes box (leaf n) = []
split_boxes box (split i m l r) = box ∷ (split_boxes (below box i m) l ++ split_boxes (above box i m) r)

-- how many nodes are splits
abbrev pub split_count : List Node → ℕ
split_count [] = 0
split_count (Split i last ∷ nodes) = split_count nodes + 1
split_count (Cost list ∷ nodes) = split_count nodes
split_count (Point ∷ nodes) = split_count nodes
split_count (Band c t side ∷ nodes) = split_count nodes
split_count (Excl e ∷ nodes) = split_count nodes
split_count (Empty i ∷ nodes) = split_count nodes
