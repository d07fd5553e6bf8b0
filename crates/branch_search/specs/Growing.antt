-- A tree under construction: its nodes by number, and their boxes. The root is number 0, and a split has a left part
-- of some number and a right part of the next. Cited by private functions only: no part of any promise.
use Rattle.std.specs.Prelude.{◌≡◌, ℕ, ◌+◌, ◌<◌, ⊤, ◌⊎◌, List, [], ◌∷◌, ◌++◌, length, slice_set, slice_index_or}
use Rattle.instance_model.specs.Tables.{Tables}
use Rattle.lagrange_bound.specs.declared.span.Span.{Span}
use Rattle.lagrange_bound.specs.Boxes.{IsBox}
use Rattle.certificate_tree.specs.declared.node.Node.{Node}
use Rattle.certificate_tree.specs.declared.node.Node.TheVariants.{Split, Cost, Point, Band, Excl, Empty}
use Rattle.certificate_tree.specs.Trees.{root_box, below, above, IsSplit}
use Rattle.branch_search.specs.declared.tree.cell.Cell.{Cell}

-- what stands at a number
abbrev pub cell_at : List Cell → ℕ → Cell
cell_at cells k = slice_index_or cells k (record { node = Split 0 0; parent = 0; left = 0 })

abbrev pub node_at : List Cell → ℕ → Node
node_at cells k = (cell_at cells k).node

abbrev pub box_at : List (List Span) → ℕ → List Span
box_at boxes k = slice_index_or boxes k []

-- a node is no split
abbrev pub IsLeafNode : Node → Type 0
IsLeafNode (Split i m) = ⊥
IsLeafNode (Cost j) = ⊤
IsLeafNode Point = ⊤
IsLeafNode (Band c t side) = ⊤
IsLeafNode (Excl e) = ⊤
IsLeafNode (Empty i) = ⊤

-- a split of a box has its parts at a number and the next, of so many numbers
pub record IsSplitAt (count : ℕ) (boxes : List (List Span)) (box : List Span) (left i m : ℕ) : Type 0 where
  pub within : left + 1 < count
  pub split : IsSplit box i m
  pub left_is : box_at boxes left ≡ below box i m
  pub right_is : box_at boxes (left + 1) ≡ above box i m

-- a leaf has no parts
abbrev pub IsLinked : ℕ → List (List Span) → List Span → ℕ → Node → Type 0
IsLinked count boxes box left (Split i m) = IsSplitAt count boxes box left i m
IsLinked count boxes box left (Cost j) = ⊤
IsLinked count boxes box left Point = ⊤
IsLinked count boxes box left (Band c t side) = ⊤
IsLinked count boxes box left (Excl e) = ⊤
IsLinked count boxes box left (Empty i) = ⊤

-- number k is a part of the split at its parent, which has a lesser number
pub record IsPartOf (cells : List Cell) (k p : ℕ) : Type 0 where
  pub lesser : p < k
  pub number : ℕ
  pub last : ℕ
  pub node : node_at cells p ≡ Split number last
  pub side : ((cell_at cells p).left ≡ k) ⊎ ((cell_at cells p).left + 1 ≡ k)

-- the boxes are those of the numbers
pub record AreBoxesOf (inst : Tables) (cells : List Cell) (boxes : List (List Span)) : Type 0 where
  pub each : length boxes ≡ length cells
  pub some : 0 < length cells
  pub root : box_at boxes 0 ≡ root_box inst
  pub boxed : (k : ℕ) → k < length cells → IsBox inst (box_at boxes k)
  pub linked : (k : ℕ) → k < length cells
      → IsLinked (length cells) boxes (box_at boxes k) (cell_at cells k).left (node_at cells k)
  pub parts : (k : ℕ) → 0 < k → k < length cells → IsPartOf cells k (cell_at cells k).parent

-- number n becomes a split, of which the parts get the next two numbers
abbrev pub split_cells : List Cell → (n i m : ℕ) → Node → Node → List Cell
split_cells cells n i m a b =
    slice_set (cells ++ (record { node = a; parent = n; left = 0 }) ∷ (record { node = b; parent = n; left = 0 }) ∷ [])
    n (record { node = Split i m; parent = (cell_at cells n).parent; left = length cells })

abbrev pub split_list : List (List Span) → (n i m : ℕ) → List (List Span)
split_list boxes n i m = boxes ++ below (box_at boxes n) i m ∷ above (box_at boxes n) i m ∷ []
