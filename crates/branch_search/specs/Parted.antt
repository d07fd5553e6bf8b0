-- How a tree under construction goes on from the given one. Cited by private functions only: no part of any promise.
use Rattle.std.specs.Prelude.{◌≡◌, ℕ, ◌+◌, ◌⊎◌, ℤ, List, [], ◌∷◌, All}
use Rattle.certificate_tree.specs.declared.node.Node.TheVariants.{Split}
use Rattle.certificate_tree.specs.Trees.{Tree, leaf, split}
use Rattle.branch_search.specs.declared.tree.cell.Cell.{Cell}
use Rattle.branch_search.specs.Parts.{leaf_total}
use Rattle.branch_search.specs.Growing.{node_at}
use Rattle.branch_search.specs.Shapes.{Shape, tip, fork}

-- ---- numbers that have no node so far

-- such a number, and the part of the given tree that stands there
pub record Place : Type 0 where
  pub number : ℕ
  pub tree : Tree

-- a number is none of them
abbrev pub IsApart : ℕ → List Place → Type 0
IsApart k [] = Unit {0}
IsApart k (p ∷ ps) = ¬ (p.number ≡ k) × IsApart k ps

-- at number k stands this part of the tree, whose first leaf has number n, where that of the first place has number
-- `next`
abbrev pub IsPlaceOf : (next : ℕ) → List Place → (k n : ℕ) → Tree → Type 0
IsPlaceOf next [] k n t = ⊥
IsPlaceOf next (p ∷ ps) k n t =
    ((p.number ≡ k) × (next ≡ n) × (p.tree ≡ t)) ⊎ IsPlaceOf (next + leaf_total p.tree) ps k n t

-- ---- what waits, and what is set aside

-- number k is none of these entries
abbrev pub IsNoEntry : List (ℤ × ℕ) → ℕ → Type 0
IsNoEntry entries k = All (λ entry. ¬ (entry.1 ≡ k)) entries

-- all numbers of a shape that are no splits are such
abbrev pub AllTips : (ℕ → Type 0) → Shape → Type 0
AllTips Such (tip k) = Such k
AllTips Such (fork k l r) = AllTips Such l × AllTips Such r

-- all numbers of a shape that are splits are such
abbrev pub AllForks : (ℕ → Type 0) → Shape → Type 0
AllForks Such (tip k) = Unit {0}
AllForks Such (fork k l r) = Such k × AllForks Such l × AllForks Such r

-- a search on its way: which leaves of the given tree may be split, what is known of the numbers that were split there,
-- the nodes, what waits and what is set aside, and the numbers that have no node so far, of whose leaves the first one
-- has number `next`
pub record Stage : Type 1 where
  pub may : ℕ → Type 0
  pub was_split : ℕ → Type 0
  pub cells : List Cell
  pub waiting : List (ℤ × ℕ)
  pub aside : List (ℤ × ℕ)
  pub next : ℕ
  pub places : List Place

-- a number that has the leaf of its box, where the given tree has leaf n: it is not set aside where that leaf may be
-- split, and else it does not wait
abbrev pub IsLeftLeaf : Stage → (n k : ℕ) → Type 0
IsLeftLeaf stage n k =
    IsApart k stage.places
    × ((stage.may n × IsNoEntry stage.aside k) ⊎ (¬ (stage.may n) × IsNoEntry stage.waiting k))

-- a shape goes on from a tree, whose first leaf has number n
abbrev pub Continues : Stage → (n : ℕ) → Tree → Shape → Type 0
Continues stage n (leaf a) (tip k) = IsPlaceOf stage.next stage.places k n (leaf a) ⊎ IsLeftLeaf stage n k
Continues stage n (leaf a) (fork k l r) =
    (stage.places ≡ []) × stage.may n × AllForks stage.was_split (fork k l r) × AllTips (IsNoEntry stage.aside) l
    × AllTips (IsNoEntry stage.aside) r
Continues stage n (split i m a b) (tip k) = IsPlaceOf stage.next stage.places k n (split i m a b)
Continues stage n (split i m a b) (fork k l r) =
    (node_at stage.cells k ≡ Split i m) × Continues stage n a l × Continues stage (n + leaf_total a) b r
