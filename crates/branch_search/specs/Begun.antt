-- A tree that is laid out by the walk over its nodes: each number gets a place, and at last its node. Cited by private
-- functions only: no part of any promise.
use Rattle.std.specs.Prelude.{◌≡◌, ℕ, ◌+◌, ◌<◌, ◌⊎◌, ℤ, List, [], ◌∷◌, ◌++◌, length, map, reverse, slice_set}
use Rattle.std.specs.Prelude.{All, Bool, Option}
use Rattle.instance_model.specs.Tables.{Tables}
use Rattle.lagrange_bound.specs.declared.span.Span.{Span}
use Rattle.lagrange_bound.specs.Goals.{PlanValue}
use Rattle.lagrange_bound.specs.Tabulated.{PriceRows}
use Rattle.certificate_lines.specs.declared.line.Bound.{Bound}
use Rattle.certificate_tree.specs.declared.node.Node.{Node}
use Rattle.certificate_tree.specs.declared.node.Node.TheVariants.{Point}
use Rattle.certificate_tree.specs.Trees.{Tree, pre_order, leaves, root_box}
use Rattle.certificate_tree.specs.Ranges.{AreNodesOf, IsTreeInRange}
use Rattle.certificate_tree.specs.Validity.{IsProved, ClaimLeafHolds}
use Rattle.branch_search.specs.declared.part.Part.{Part}
use Rattle.branch_search.specs.declared.splitting.settling.Settled.{Settled}
use Rattle.branch_search.specs.declared.tree.cell.Cell.{Cell}
use Rattle.branch_search.specs.declared.tree.growth.Growth.{Growth}
use Rattle.branch_search.specs.Best.{IsBestOver}
use Rattle.branch_search.specs.Splits.{split_count}
use Rattle.branch_search.specs.Tasks.{Task, given_claim, free_task}
use Rattle.branch_search.specs.Growing.{cell_at, node_at, box_at, AreBoxesOf}
use Rattle.branch_search.specs.Shapes.{Shape, forks, IsShapeOf}
use Rattle.branch_search.specs.Settled.{IsSettled, IsImprovedIn, IsLeafOf}
use Rattle.branch_search.specs.Valued.{plan_in}
use Rattle.branch_search.specs.Aside.{IsLeastWorth, IsFiled}
use Rattle.branch_search.specs.Parts.{IsOfPart}
use Rattle.branch_search.specs.Parted.{Place, IsApart, Continues}
use Rattle.branch_search.specs.States.{AreEntries, IsFloor}

-- ---- a leaf

-- number k becomes a leaf
abbrev pub with_leaf : List Cell → ℕ → Node → List Cell
with_leaf cells k node =
    slice_set cells k (record { node = node; parent = (cell_at cells k).parent; left = (cell_at cells k).left })

-- number k has become the leaf of its box, whatever the boxes of the cells are, and waits where it may be split
pub record IsLaid (value : PlanValue) (inst : Tables) (tables : List PriceRows) (k : ℕ) (may_split : Bool)
    (old new : Growth) : Type 0 where
  pub leaf : Settled
  pub cells : new.cells.items ≡ with_leaf old.cells.items k leaf.node
  pub filed : IsFiled may_split leaf.worth k old.waiting new.waiting old.aside new.aside
  pub leaf_is : (boxes : List (List Span)) → AreBoxesOf inst old.cells.items boxes
      → IsLeafOf (free_task value inst tables) (plan_in new.best) (box_at boxes k) leaf
  pub improved : (boxes : List (List Span)) → AreBoxesOf inst old.cells.items boxes
      → IsImprovedIn value inst (box_at boxes k) (plan_in old.best) (plan_in new.best)
  pub splits : new.splits ≡ old.splits

-- ---- the walk

-- the nodes of these parts
abbrev pub nodes_at : List Place → List Node
nodes_at [] = []
nodes_at (p ∷ ps) = pre_order p.tree ++ nodes_at ps

-- they are different numbers
abbrev pub AreApart : List Place → Type 0
AreApart [] = Unit {0}
AreApart (p ∷ ps) = IsApart p.number ps × AreApart ps

-- a number is one of them
abbrev pub IsOneOf : ℕ → List Place → Type 0
IsOneOf k [] = ⊥
IsOneOf k (p ∷ ps) = (p.number ≡ k) ⊎ IsOneOf k ps

-- the part of the tree is in range for its box, and its leaves hold where those of the tree do
pub record IsOpen (task : Task) (cells : List Cell) (boxes : List (List Span)) (place : Place) : Type 0 where
  pub known : place.number < length cells
  pub node : node_at cells place.number ≡ Point
  pub in_range : IsTreeInRange task.inst task.lists (box_at boxes place.number) place.tree
  pub holds : (bound : Bound) → IsProved task.value task.inst (given_claim task bound)
      → All (ClaimLeafHolds task.value task.inst (given_claim task bound))
      (leaves (box_at boxes place.number) place.tree)

abbrev pub AreOpen : Task → List Cell → List (List Span) → List Place → Type 0
AreOpen task cells boxes [] = Unit {0}
AreOpen task cells boxes (p ∷ ps) = IsOpen task cells boxes p × AreOpen task cells boxes ps

-- what holds on the way: so many leaves of the given tree have become those of their boxes, and the rest of the nodes
-- is to come
pub record IsBegun (task : Task) (may : ℕ → Type 0) (given : Tree) (cells : List Cell) (waiting aside : List (ℤ × ℕ))
    (best : Option (List ℕ)) (stack : List ℕ) (seen : ℕ) (rest : List Node) : Type 0 where
  pub boxes : List (List Span)
  pub shape : Shape
  pub are_boxes : AreBoxesOf task.inst cells boxes
  pub is_shape : IsShapeOf cells shape
  pub places : List Place
  pub stack_is : reverse stack ≡ map (λ place. place.number) places
  pub rest_is : nodes_at places ≡ rest
  pub open_are : AreOpen task cells boxes places
  pub apart : AreApart places
  pub splits_are : forks shape + split_count rest ≡ split_count task.given
  pub settled : (k : ℕ) → k < length cells
      → IsOneOf k places ⊎ IsSettled task best (box_at boxes k) (node_at cells k)
  pub waits : AreEntries task cells boxes (waiting ++ aside)
  pub continues : Continues (record {
    may = may;
    was_split = λ k. ⊥;
    cells = cells;
    waiting = waiting;
    aside = aside;
    next = seen;
    places = places;
  }) 0 given shape
  pub best_is : IsBestOver task.value task.inst task.incumbent best
  pub floors : (bound : Bound) → IsProved task.value task.inst (given_claim task bound)
      → IsFloor task cells boxes best bound

-- the same where this is the least worth of what is set aside, and a part of the given tree may be split
pub record IsBegunIn (task : Task) (part : Part) (cells : List Cell) (waiting : List (ℤ × ℕ)) (kept : Option ℤ)
    (best : Option (List ℕ)) (stack : List ℕ) (seen : ℕ) (rest : List Node) : Type 0 where
  pub given : Tree
  pub of_nodes : AreNodesOf task.inst task.lists (root_box task.inst) given task.given
  pub aside : List (ℤ × ℕ)
  pub least : IsLeastWorth kept aside
  pub begun : IsBegun task (IsOfPart part) given cells waiting aside best stack seen rest
