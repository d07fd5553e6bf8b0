-- How many splits are among the nodes of a tree.
use Rattle.std.proofs.Common.{◌≡◌, ℕ, ◌+◌, ◌*◌, sym, subst, arith, List, [], ◌∷◌, ◌++◌, length, length-append, zero-add}
use Rattle.std.proofs.Common.{refl}
use Rattle.instance_model.specs.Tables.{Tables}
use Rattle.lagrange_bound.specs.declared.span.Span.{Span}
use Rattle.certificate_tree.specs.declared.node.Node.{Node}
use Rattle.certificate_tree.specs.declared.node.Node.TheVariants.{Split, Cost, Point, Band, Excl, Empty}
use Rattle.certificate_tree.specs.Trees.{Tree, leaf, split, pre_order, below, above}
use Rattle.certificate_tree.specs.Ranges.{AreNodesOf, IsTreeInRange}
use Rattle.branch_search.specs.Splits.{split_boxes, split_count}
use Rattle.branch_search.specs.Growing.{IsLeafNode}

-- a leaf counts nothing
pub leaf_count : (node : Node) (nodes : List Node) → IsLeafNode node → split_count (node ∷ nodes) ≡ split_count nodes
leaf_count (Split i m) nodes h = absurd h
leaf_count (Cost j) nodes h = refl
leaf_count Point nodes h = refl
leaf_count (Band c t side) nodes h = refl
leaf_count (Excl e) nodes h = refl
leaf_count (Empty i) nodes h = refl

pub split_count-append : (xs ys : List Node) → split_count (xs ++ ys) ≡ split_count xs + split_count ys
split_count-append [] ys = sym (zero-add (split_count ys))
split_count-append (Split i m ∷ xs) ys = let h = split_count-append xs ys in omega arith
split_count-append (Cost j ∷ xs) ys = split_count-append xs ys
split_count-append (Point ∷ xs) ys = split_count-append xs ys
split_count-append (Band c t side ∷ xs) ys = split_count-append xs ys
split_count-append (Excl e ∷ xs) ys = split_count-append xs ys
split_count-append (Empty i ∷ xs) ys = split_count-append xs ys

pub tree_splits : (inst : Tables) (lists : ℕ) (box : List Span) (t : Tree) → IsTreeInRange inst lists box t
    → split_count (pre_order t) ≡ length (split_boxes box t)
tree_splits inst lists box (leaf (Split i m)) h = absurd h
tree_splits inst lists box (leaf (Cost j)) h = sym (zero-add 0)
tree_splits inst lists box (leaf Point) h = sym (zero-add 0)
tree_splits inst lists box (leaf (Band c t side)) h = sym (zero-add 0)
tree_splits inst lists box (leaf (Excl e)) h = sym (zero-add 0)
tree_splits inst lists box (leaf (Empty i)) h = sym (zero-add 0)
tree_splits inst lists box (split i m l r) h =
    let left = tree_splits inst lists (below box i m) l h.1 in
    let right = tree_splits inst lists (above box i m) r h.2 in
    let nodes = split_count-append (pre_order l) (pre_order r) in
    let boxes = length-append (split_boxes (below box i m) l) (split_boxes (above box i m) r) in
    omega arith

-- each split has two parts
pub node_count : (t : Tree) (box : List Span) → length (pre_order t) ≡ 2 * length (split_boxes box t) + 1
node_count (leaf n) box = refl
node_count (split i m l r) box =
    omega (
      arith,
      length-append (pre_order l) (pre_order r),
      length-append (split_boxes (below box i m) l) (split_boxes (above box i m) r),
      node_count l (below box i m),
      node_count r (above box i m),
    )

-- so the nodes of a tree in range are two for each split, and one more
pub given_nodes : (inst : Tables) (lists : ℕ) (box : List Span) (t : Tree) (nodes : List Node)
    → AreNodesOf inst lists box t nodes → length nodes ≡ 2 * split_count nodes + 1
given_nodes inst lists box t nodes h =
    subst (λ (ns : List Node). length ns ≡ 2 * split_count ns + 1) h.order
    (omega (arith, node_count t box, tree_splits inst lists box t h.in_range))
