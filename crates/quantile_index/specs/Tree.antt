-- What a node of the tree stands for, and what holds of it.
use Rattle.std.specs.Prelude.{◌≡◌, ℕ, ◌+◌, ◌*◌, ◌^◌, ◌≤◌, max, List, [], ◌∷◌, ◌++◌, length}
use Rattle.quantile_index.specs.declared.entry.Entry.{Entry}
use Rattle.quantile_index.specs.declared.tree.Node.{Node}
use Rattle.quantile_index.specs.declared.tree.Link.{Link}
use Rattle.quantile_index.specs.declared.tree.Link.TheVariants.{Leaf, Fork}
use Rattle.quantile_index.specs.Order.{IsOrdered}

-- the entries of a node and below it, in order
abbrev pub entries_of : Node → List Entry
entries_of n = n.left.0 ++ n.entry ∷ n.right.0

-- the entries in order, and the height that the node stores
abbrev pub contents : Link → List Entry × ℕ
contents Leaf = ([], 0)
contents (Fork n) = (entries_of n.value, n.value.height)

-- neither height is more than this above the other
abbrev pub DifferByAtMost : ℕ → ℕ → ℕ → Type 0
DifferByAtMost by l r = (l ≤ r + by) × (r ≤ l + by)

-- a height is at most the number of entries, and 2 ^ height at most the square of one more
pub record IsLow (height count : ℕ) : Type 0 where
  pub linear : height ≤ count
  pub square : 2 ^ height ≤ (count + 1) * (count + 1)

-- the entries are in order, the stored numbers are right, and the heights of the sides differ by at most one
pub record IsSound (n : Node) : Type 0 where
  pub ordered : IsOrdered (entries_of n)
  pub height : n.height ≡ max n.left.1 n.right.1 + 1
  pub size : n.size ≡ length (entries_of n)
  pub balanced : DifferByAtMost 1 n.left.1 n.right.1
  pub low : IsLow n.height (length (entries_of n))

abbrev pub IsSoundLink : Link → Type 0
IsSoundLink Leaf = Unit {0}
IsSoundLink (Fork n) = IsSound n.value

-- h may be the height of a tree that a node and sides of these heights are balanced to
abbrev pub IsBalancedHeight : ℕ → ℕ → ℕ → Type 0
IsBalancedHeight l r h = (max l r ≤ h) × (h ≤ max l r + 1) × (DifferByAtMost 1 l r → h ≡ max l r + 1)
