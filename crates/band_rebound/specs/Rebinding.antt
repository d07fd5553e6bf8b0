-- What becomes of a tree of boxes where the bands of its instance were changed: the splits stay, each leaf becomes the
-- first that is right for its box, and the bound becomes the least of what the new leaves are worth.
--
-- Worths, values and bounds are in parts of 10^-18.
use Rattle.std.specs.Prelude.{◌≡◌, ◌≢◌, ◌⊎◌, ⊤, ℕ, ◌+◌, ◌<◌, ◌^◌, ℤ, pos, ◌-ℤ◌, ◌≤ℤ◌, List, [], ◌∷◌, ◌++◌, length, map}
use Rattle.std.specs.Prelude.{All, Contains, Some, is_some, if◌then◌else◌}
use Rattle.instance_model.specs.Tables.{Tables}
use Rattle.instance_model.specs.Rules.{first_rule}
use Rattle.lagrange_bound.specs.declared.span.Span.{Span}
use Rattle.lagrange_bound.specs.Goals.{risk_value}
use Rattle.lagrange_bound.specs.Boxes.{IsBox, HasStarts}
use Rattle.certificate_lines.specs.declared.line.Bound.{Bound}
use Rattle.certificate_lines.specs.declared.line.Bound.TheVariants.{NoPlan, Least}
use Rattle.certificate_tree.specs.declared.node.Node.{Node}
use Rattle.certificate_tree.specs.declared.node.Node.TheVariants.{Split, Cost, Point, Band, Excl, Empty}
use Rattle.certificate_tree.specs.Trees.{Tree, leaf, split, below, above}
use Rattle.certificate_tree.specs.Holding.{Worths, IsGreatest, IsStartIn, IsSingle, first_starts, BandHolds, ExclHolds}
use Rattle.certificate_tree.specs.Holding.{EmptyHolds}

-- ---- one leaf

-- i is the first intervention whose interval has no allowed start
pub record IsFirstEmpty (inst : Tables) (box : List Span) (i : ℕ) : Type 0 where
  pub number : i < length inst.names
  pub none : EmptyHolds inst box i
  pub first : (j : ℕ) → j < i → (s : ℕ) × IsStartIn inst box j s

-- the leaf is a `band` or an `excl` that holds on the box
abbrev pub IsHeld : Tables → List Span → Node → Type 0
IsHeld inst box (Split i m) = ⊥
IsHeld inst box (Cost j) = ⊥
IsHeld inst box Point = ⊥
IsHeld inst box (Band c t side) = BandHolds inst box c t side
IsHeld inst box (Excl e) = ExclHolds inst box e
IsHeld inst box (Empty i) = ⊥

-- what a leaf on a box becomes, the first of these that applies: `empty` of the first intervention whose interval has
-- no allowed start; the same leaf, where it is a `band` or an `excl` that holds; `point`, where each interval is a
-- single start; else `cost` of the list of greatest worth, of list 0 and so many others, of the least number where
-- several have it
pub data Becomes (inst : Tables) (lists : ℕ) (worths : Worths) (box : List Span) (old : Node) : Node → Type 0 where
  empty : (i : ℕ) → IsFirstEmpty inst box i → Becomes inst lists worths box old (Empty i)
  same : HasStarts inst box → IsHeld inst box old → Becomes inst lists worths box old old
  point : HasStarts inst box → (IsHeld inst box old → ⊥) → IsSingle box → Becomes inst lists worths box old Point
  cost : (j : ℕ) → HasStarts inst box → (IsHeld inst box old → ⊥) → (IsSingle box → ⊥)
      → IsGreatest (worths box) lists j → Becomes inst lists worths box old (Cost j)

-- ---- a tree

-- the splits of the tree over the box stay, and its leaves become those of the other
abbrev pub TreeBecomes : Tables → ℕ → Worths → List Span → Tree → Tree → Type 0
TreeBecomes inst lists worths box (leaf old) (leaf new) = Becomes inst lists worths box old new
TreeBecomes inst lists worths box (split i m l r) (split j n k q) =
    (i ≡ j) × (m ≡ n) × TreeBecomes inst lists worths (below box i m) l k
    × TreeBecomes inst lists worths (above box i m) r q
TreeBecomes inst lists worths box (leaf old) (split j n k q) = ⊥
TreeBecomes inst lists worths box (split i m l r) (leaf new) = ⊥

-- ---- the bound

-- what a leaf is worth on its box: a `point` whose plan is feasible its score, a `cost` its worth by the list that it
-- names, and others nothing
abbrev pub worths_at : Tables → Worths → List Span → Node → List ℤ
worths_at inst worths box (Split i m) = []
worths_at inst worths box (Cost j) = worths box j ∷ []
worths_at inst worths box Point =
    if is_some (first_rule inst (map Some (first_starts box))) then [] else risk_value inst (first_starts box) ∷ []
worths_at inst worths box (Band c t side) = []
worths_at inst worths box (Excl e) = []
worths_at inst worths box (Empty i) = []

-- what all leaves of a tree over a box are worth
abbrev pub tree_worths : Tables → Worths → List Span → Tree → List ℤ
tree_worths inst worths box (leaf n) = worths_at inst worths box n
tree_worths inst worths box (split i m l r) =
    tree_worths inst worths (below box i m) l ++ tree_worths inst worths (above box i m) r

-- b is the least of 10^36 and these numbers, of which there is one
pub record IsLeastWorth (numbers : List ℤ) (b : ℤ) : Type 0 where
  pub some : 0 < length numbers
  pub most : b ≤ℤ pos (10 ^ 36)
  pub least : All (λ z. b ≤ℤ z) numbers
  pub among : (b ≡ pos (10 ^ 36)) ⊎ Contains numbers b

-- the bound where the leaves are worth this: the least of 10^36 and these numbers, and none where there is none
abbrev pub IsBoundOf : List ℤ → Bound → Type 0
IsBoundOf numbers NoPlan = numbers ≡ []
IsBoundOf numbers (Least b) = IsLeastWorth numbers b

-- by list 0 no box of the instance whose intervals have allowed starts is worth less than -10^36, which is the least
-- that a bound may be
abbrev pub ReachLeastBound : Tables → Worths → Type 0
ReachLeastBound inst worths =
    (box : List Span) → IsBox inst box → HasStarts inst box → (pos 0 -ℤ pos (10 ^ 36)) ≤ℤ worths box 0

-- the second bound says as much as the first or more, where none is above all numbers
abbrev pub IsNoLower : Bound → Bound → Type 0
IsNoLower bound NoPlan = ⊤
IsNoLower NoPlan (Least b) = ⊥
IsNoLower (Least a) (Least b) = a ≤ℤ b

-- ---- counts

-- how many leaves of two trees with the same splits are the same, and how many differ
pub record LeafCounts : Type 0 where
  pub kept : ℕ
  pub changed : ℕ

-- both together
abbrev pub sum_of : LeafCounts → LeafCounts → LeafCounts
sum_of a b = record { kept = a.kept + b.kept; changed = a.changed + b.changed }

-- one leaf: the same, or another
abbrev pub CountsLeaf : Node → Node → LeafCounts → Type 0
CountsLeaf old new counts =
    ((old ≡ new) × (counts ≡ record { kept = 1; changed = 0 }))
    ⊎ ((old ≢ new) × (counts ≡ record { kept = 0; changed = 1 }))

-- the leaves of two trees, one by one
abbrev pub Counts : Tree → Tree → LeafCounts → Type 0
Counts (leaf old) (leaf new) counts = CountsLeaf old new counts
Counts (split i m l r) (split j n k q) counts =
    (left : LeafCounts) × ((right : LeafCounts) × Counts l k left × Counts r q right × (counts ≡ sum_of left right))
Counts (leaf old) (split j n k q) counts = ⊥
Counts (split i m l r) (leaf new) counts = ⊥
