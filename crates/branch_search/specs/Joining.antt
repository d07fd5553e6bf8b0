-- Trees that go on from one given tree, each with a part of its leaves, and what they are when they are put together.
use Rattle.std.specs.Prelude.{◌≡◌, ℕ, ◌+◌, ◌%◌, ◌<◌, List, length, All, Any, slice_index_or}
use Rattle.instance_model.specs.Tables.{Tables}
use Rattle.lagrange_bound.specs.declared.span.Span.{Span}
use Rattle.lagrange_bound.specs.Goals.{PlanValue}
use Rattle.certificate_lines.specs.declared.line.Bound.{Bound}
use Rattle.certificate_tree.specs.Trees.{Tree, leaf, split, pre_order, Leaf, leaves, root_box, below, above}
use Rattle.certificate_tree.specs.Ranges.{IsTreeInRange}
use Rattle.certificate_tree.specs.Holding.{Worths, LeafHolds}
use Rattle.certificate_tree.specs.Validity.{IsProved}
use Rattle.branch_search.specs.declared.part.Part.{Part}
use Rattle.branch_search.specs.Parts.{IsOfPart, leaf_total, GoesOnFrom}

-- ---- the leaves of other parts

-- each leaf of a given tree that isn't of the part has a leaf over its box in a tree that goes on with the part
abbrev pub OthersStay : Type 0
OthersStay =
    (part : Part) (box : List Span) (given tree : Tree) → GoesOnFrom (IsOfPart part) 0 given tree
    → (k : ℕ) (d : Leaf) → k < length (leaves box given) → ¬ IsOfPart part k
    → Any (λ other. other.box ≡ (slice_index_or (leaves box given) k d).box) (leaves box tree)

-- ---- parts that are put together

-- the parts of a split; of a leaf, the leaf
abbrev pub left_of : Tree → Tree
left_of (leaf a) = leaf a
left_of (split i m l r) = l

abbrev pub right_of : Tree → Tree
right_of (leaf a) = leaf a
right_of (split i m l r) = r

-- a given tree, whose first leaf has number n: in the place of each leaf stands what the tree of its part has there, of
-- so many parts
abbrev pub joined : (count n : ℕ) → (given : Tree) → (trees : ℕ → Tree) → Tree
joined count n (leaf a) trees = trees (n % count)
joined count n (split i m l r) trees =
    split i m (joined count n l (λ k. left_of (trees k))) (joined count (n + leaf_total l) r (λ k. right_of (trees k)))

-- all leaves of a tree over a box are such, that stand where the given tree, whose first leaf has number n, has a leaf
-- that may be split
abbrev pub AllBeneath : (may : ℕ → Type 0) → (Such : Leaf → Type 0) → (n : ℕ) → List Span → (given tree : Tree) → Type 0
AllBeneath may Such n box (leaf a) tree = may n → All Such (leaves box tree)
AllBeneath may Such n box (split i m l r) (leaf b) = ⊥
AllBeneath may Such n box (split i m l r) (split j k p q) =
    AllBeneath may Such n (below box j k) l p × AllBeneath may Such (n + leaf_total l) (above box j k) r q

-- a tree in range over all starts goes on with a part of the given one, and its leaves that stand where that has one of
-- the part hold for a bound
pub record IsPartProved (value : PlanValue) (inst : Tables) (lists : ℕ) (worths : Worths) (bound : Bound)
    (given : Tree) (part : Part) (tree : Tree) : Type 0 where
  pub stays : GoesOnFrom (IsOfPart part) 0 given tree
  pub in_range : IsTreeInRange inst lists (root_box inst) tree
  pub holds : AllBeneath (IsOfPart part) (λ x. LeafHolds value inst bound worths x.box x.node) 0 (root_box inst) given
      tree

-- put together, such trees of all parts prove the bound
abbrev pub PartsJoin : Type 0
PartsJoin =
    (value : PlanValue) (inst : Tables) (lists : ℕ) (worths : Worths) (bound : Bound) (given : Tree) (count : ℕ)
    (trees : ℕ → Tree) → 0 < count
    → ((k : ℕ) → k < count
    → IsPartProved value inst lists worths bound given (record { number = k; count = count }) (trees k))
    → IsProved value inst (record {
      bound = bound;
      lists = lists;
      worths = worths;
      nodes = pre_order (joined count 0 given trees);
    })
