-- The nodes of a tree under construction, listed in their order. Cited by private functions only: no part of any
-- promise.
use Rattle.std.specs.Prelude.{◌≡◌, ℕ, List, [], ◌∷◌, ◌++◌, length, map, reverse}
use Rattle.certificate_tree.specs.declared.node.Node.{Node}
use Rattle.branch_search.specs.declared.tree.cell.Cell.{Cell}
use Rattle.branch_search.specs.Growing.{node_at}
use Rattle.branch_search.specs.Shapes.{Shape, top, numbers, Stands, IsWithin, IsShapeOf}

-- the numbers of several shapes
abbrev pub all_numbers : List Shape → List ℕ
all_numbers [] = []
all_numbers (shape ∷ shapes) = numbers shape ++ all_numbers shapes

-- each of them stands for what the cells say
abbrev pub AllStand : List Cell → List Shape → Type 0
AllStand cells [] = Unit {0}
AllStand cells (shape ∷ shapes) = Stands cells shape × AllStand cells shapes

-- all of their numbers are below n
abbrev pub AllWithinOf : ℕ → List Shape → Type 0
AllWithinOf n [] = Unit {0}
AllWithinOf n (shape ∷ shapes) = IsWithin n shape × AllWithinOf n shapes

-- some nodes are listed, and these shapes are left
pub record IsListed (cells : List Cell) (shape : Shape) (nodes : List Node) (stack : List ℕ) : Type 0 where
  pub left : List Shape
  pub tops : reverse stack ≡ map top left
  pub stand : AllStand cells left
  pub within : AllWithinOf (length cells) left
  pub whole : nodes ++ map (node_at cells) (all_numbers left) ≡ map (node_at cells) (numbers shape)

-- whatever the shape of the cells is
abbrev pub IsListedSoFar : List Cell → List Node → List ℕ → Type 0
IsListedSoFar cells nodes stack = (shape : Shape) → IsShapeOf cells shape → IsListed cells shape nodes stack
