-- Parts of a tree that a search goes on from: the leaves of one part may be split, and the others stay leaves. Leaves
-- are counted from 0, in the order of the nodes.
use Rattle.std.specs.Prelude.{◌≡◌, ℕ, ◌+◌, ◌%◌, ◌<◌, ◌≤◌, ℤ, ⊤, ◌⊎◌, List, length, Option, Some, All, Any, IsTrue}
use Rattle.instance_model.specs.Naturals.{count_product}
use Rattle.instance_model.specs.Tables.{Tables, tmax}
use Rattle.lagrange_bound.specs.declared.span.Span.{Span}
use Rattle.lagrange_bound.specs.Goals.{PlanValue}
use Rattle.certificate_tree.specs.declared.node.Node.{Node}
use Rattle.certificate_tree.specs.Trees.{Tree, leaf, split, Leaf, leaves, root_box, below, above}
use Rattle.certificate_tree.specs.Ranges.{AreNodesOf}
use Rattle.certificate_tree.specs.Holding.{Worths}
use Rattle.branch_search.specs.declared.part.Part.{Part}
use Rattle.branch_search.specs.declared.search_end.SearchEnd.{SearchEnd}
use Rattle.branch_search.specs.Splits.{split_boxes, split_count}
use Rattle.branch_search.specs.Searched.{IsSplitBox, IsCostOf, IsUnfinishedLeaf, IsSearchedBy}

-- part `number` of `count` has the leaves with that number modulo `count`
abbrev pub IsOfPart : Part → ℕ → Type 0
IsOfPart part n = n % part.count ≡ part.number

-- the one part of all leaves
abbrev pub whole_part : Part
whole_part = record { number = 0; count = 1 }

-- how many leaves a tree has
abbrev pub leaf_total : Tree → ℕ
leaf_total (leaf a) = 1
leaf_total (split i m l r) = leaf_total l + leaf_total r

-- a tree goes on from a given one, whose first leaf has number n: its splits are there, and a leaf that may not be
-- split is a leaf
abbrev pub GoesOnFrom : (may : ℕ → Type 0) → (n : ℕ) → (given tree : Tree) → Type 0
GoesOnFrom may n (leaf a) (leaf b) = ⊤
GoesOnFrom may n (leaf a) (split j k p q) = may n
GoesOnFrom may n (split i m l r) (leaf b) = ⊥
GoesOnFrom may n (split i m l r) (split j k p q) =
    (i ≡ j) × (m ≡ k) × GoesOnFrom may n l p × GoesOnFrom may (n + leaf_total l) r q

-- some leaf of a tree over a box is such a leaf, and stands where the given tree, whose first leaf has number n, has a
-- leaf that may be split
abbrev pub AnyBeneath : (may : ℕ → Type 0) → (Such : Leaf → Type 0) → (n : ℕ) → List Span → (given tree : Tree) → Type 0
AnyBeneath may Such n box (leaf a) tree = may n × Any Such (leaves box tree)
AnyBeneath may Such n box (split i m l r) (leaf b) = ⊥
AnyBeneath may Such n box (split i m l r) (split j k p q) =
    AnyBeneath may Such n (below box j k) l p ⊎ AnyBeneath may Such (n + leaf_total l) (above box j k) r q

-- the boxes of all splits of a tree over a box are such, of those that stand where the given tree has a leaf
abbrev pub AllSplitBeneath : (Such : List Span → Type 0) → List Span → (given tree : Tree) → Type 0
AllSplitBeneath Such box (leaf a) tree = All Such (split_boxes box tree)
AllSplitBeneath Such box (split i m l r) (leaf b) = ⊥
AllSplitBeneath Such box (split i m l r) (split j k p q) =
    AllSplitBeneath Such (below box j k) l p × AllSplitBeneath Such (above box j k) r q

-- z is the value of the best plan, or the worth of a `cost` leaf that stands where the given tree has a leaf of the part
abbrev pub IsAmongPart : PlanValue → Tables → Worths → Option (List ℕ) → Part → (given tree : Tree) → ℤ → Type 0
IsAmongPart value inst worths best part given tree z =
    ((plan : List ℕ) × (best ≡ Some plan) × (value inst plan ≡ z))
    ⊎ AnyBeneath (IsOfPart part) (IsCostOf worths z) 0 (root_box inst) given tree

-- what is left of a tree that went on from a given one is left to other parts: there are some, and no leaf that stands
-- where the given tree has a leaf of this part may have a better plan than the best one
pub record IsLeftToOthers (value : PlanValue) (inst : Tables) (worths : Worths) (best : Option (List ℕ)) (part : Part)
    (given tree : Tree) : Type 0 where
  pub others : 1 < part.count
  pub done : ¬ AnyBeneath (IsOfPart part) (IsUnfinishedLeaf value inst worths best) 0 (root_box inst) given tree

-- the answer of a search with this many turns, by worths of boxes by list 0 and so many others, given a feasible plan
-- or none, which went on from the tree of these nodes and split the leaves of one part alone
pub record IsGoneOnBy (value : PlanValue) (inst : Tables) (lists : ℕ) (worths : Worths) (incumbent : Option (List ℕ))
    (nodes : List Node) (part : Part) (turns : ℕ) (answer : SearchEnd) : Type 0 where
  -- it is the answer of a search with as many turns as splits were made
  pub splits : ℕ
  pub by : IsSearchedBy value inst lists worths incumbent (split_count nodes) splits answer
  pub made : length (split_boxes (root_box inst) by.tree) ≡ split_count nodes + splits
  pub few : splits ≤ turns
  -- its tree is the given one, where leaves of the part are split further
  pub given : Tree
  pub of_nodes : AreNodesOf inst lists (root_box inst) given nodes
  pub stays : GoesOnFrom (IsOfPart part) 0 given by.tree
  -- each split that the given one has not is of a box that may hold a better plan than the plan handed in; no worth of
  -- the box is above the value of the best plan, or above the worth of a `cost` leaf of the part; it may be above the
  -- bound, which may be the worth of a leaf of another part
  pub new_splits : AllSplitBeneath (IsSplitBox value inst lists worths incumbent
      (IsAmongPart value inst worths answer.best part given by.tree)) (root_box inst) given by.tree
  -- when the search stopped: after all turns, or where nothing was left, or only what is left to other parts; with
  -- turns for all plans but one, the splits of the nodes counted, not after all turns
  pub spent : IsTrue answer.unfinished
      → (splits ≡ turns) ⊎ IsLeftToOthers value inst worths answer.best part given by.tree
  pub enough : count_product (length inst.names) (tmax inst) ≤ split_count nodes + turns + 1 → IsTrue answer.unfinished
      → IsLeftToOthers value inst worths answer.best part given by.tree
