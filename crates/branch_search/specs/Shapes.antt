-- The shape of a tree under construction: which numbers stand where. Cited by private functions only: no part of any
-- promise.
use Rattle.std.specs.Prelude.{◌≡◌, ℕ, suc, ◌+◌, ◌<◌, List, [], ◌∷◌, ◌++◌, length, ◌==◌, if◌then◌else◌}
use Rattle.certificate_tree.specs.declared.node.Node.{Node}
use Rattle.certificate_tree.specs.declared.node.Node.TheVariants.{Split, Cost, Point, Band, Excl, Empty}
use Rattle.certificate_tree.specs.Trees.{Tree, leaf, split}
use Rattle.branch_search.specs.declared.tree.cell.Cell.{Cell}
use Rattle.branch_search.specs.Growing.{cell_at, node_at, IsLeafNode}

pub data Shape : Type 0 where
  tip : ℕ → Shape
  fork : ℕ → Shape → Shape → Shape

-- the number of the root of a shape
abbrev pub top : Shape → ℕ
top (tip k) = k
top (fork k l r) = k

-- the numbers of a shape, each before those of its parts
abbrev pub numbers : Shape → List ℕ
numbers (tip k) = k ∷ []
numbers (fork k l r) = k ∷ (numbers l ++ numbers r)

-- how many splits it has
abbrev pub forks : Shape → ℕ
forks (tip k) = 0
forks (fork k l r) = suc (forks l + forks r)

-- how many numbers it has
abbrev pub size : Shape → ℕ
size (tip k) = 1
size (fork k l r) = suc (size l + size r)

-- 1 for the same number, and else 0
abbrev pub same : ℕ → ℕ → ℕ
same k j = if k == j then 1 else 0

-- how often it has a number
abbrev pub times : ℕ → Shape → ℕ
times j (tip k) = same k j
times j (fork k l r) = same k j + (times j l + times j r)

-- how often it has a number that is no split
abbrev pub tips : ℕ → Shape → ℕ
tips j (tip k) = same k j
tips j (fork k l r) = tips j l + tips j r

-- all of its numbers are below n
abbrev pub IsWithin : ℕ → Shape → Type 0
IsWithin n (tip k) = k < n
IsWithin n (fork k l r) = (k < n) × IsWithin n l × IsWithin n r

-- number k is a split, and its parts have the numbers a and b
pub record IsForkAt (cells : List Cell) (k a b : ℕ) : Type 0 where
  pub number : ℕ
  pub last : ℕ
  pub node : node_at cells k ≡ Split number last
  pub left : a ≡ (cell_at cells k).left
  pub right : b ≡ (cell_at cells k).left + 1

-- the shape stands for what the cells say
abbrev pub Stands : List Cell → Shape → Type 0
Stands cells (tip k) = IsLeafNode (node_at cells k)
Stands cells (fork k l r) = IsForkAt cells k (top l) (top r) × Stands cells l × Stands cells r

-- the shape has each number once
pub record IsShapeOf (cells : List Cell) (shape : Shape) : Type 0 where
  pub stands : Stands cells shape
  pub root : top shape ≡ 0
  pub once : (k : ℕ) → k < length cells → times k shape ≡ 1
  pub within : IsWithin (length cells) shape
  pub count : size shape ≡ length cells

-- ---- trees

-- what a split says
abbrev pub number_of : Node → ℕ
number_of (Split i m) = i
number_of (Cost j) = 0
number_of Point = 0
number_of (Band c t side) = 0
number_of (Excl e) = 0
number_of (Empty i) = 0

abbrev pub last_of : Node → ℕ
last_of (Split i m) = m
last_of (Cost j) = 0
last_of Point = 0
last_of (Band c t side) = 0
last_of (Excl e) = 0
last_of (Empty i) = 0

-- the tree of a shape
abbrev pub tree_of : List Cell → Shape → Tree
tree_of cells (tip k) = leaf (node_at cells k)
tree_of cells (fork k l r) =
    split (number_of (node_at cells k)) (last_of (node_at cells k)) (tree_of cells l) (tree_of cells r)

-- ---- growth

-- the shape where number n becomes a split, of which the parts have the numbers a and suc a
abbrev pub grown : (n a : ℕ) → Shape → Shape
grown n a (tip k) = if k == n then fork n (tip a) (tip (suc a)) else tip k
grown n a (fork k l r) = fork k (grown n a l) (grown n a r)
