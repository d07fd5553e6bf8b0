-- The state of a search. Cited by private functions only: no part of any promise.
use Rattle.std.specs.Prelude.{◌≡◌, ◌^◌, ℕ, ◌+◌, ◌<◌, ◌≤◌, ℤ, ◌≤ℤ◌, List, [], ◌++◌, length, Option, Some, None}
use Rattle.std.specs.Prelude.{All, Contains, cond, ◌==◌, map, is_some, IfSome, IfNone, unsigned_abs}
use Rattle.std.specs.List.{sum_by}
use Rattle.lagrange_bound.specs.declared.span.Span.{Span}
use Rattle.certificate_lines.specs.declared.line.Bound.{Bound}
use Rattle.certificate_lines.specs.declared.line.Bound.TheVariants.{NoPlan, Least}
use Rattle.certificate_tree.specs.declared.node.Node.TheVariants.{Cost}
use Rattle.certificate_tree.specs.Trees.{Tree, root_box}
use Rattle.certificate_tree.specs.Ranges.{AreNodesOf}
use Rattle.certificate_tree.specs.Holding.{IsAtLeast}
use Rattle.certificate_tree.specs.Validity.{IsProved}
use Rattle.branch_search.specs.declared.part.Part.{Part}
use Rattle.branch_search.specs.declared.best.Best.{Best}
use Rattle.branch_search.specs.declared.tree.cell.Cell.{Cell}
use Rattle.branch_search.specs.declared.tree.growth.Growth.{Growth}
use Rattle.branch_search.specs.declared.search_end.SearchEnd.{SearchEnd}
use Rattle.branch_search.specs.Best.{IsBestOver}
use Rattle.branch_search.specs.Valued.{plan_in, IsValued, IsSmallValue, IsBelow}
use Rattle.branch_search.specs.Boxes.{IsUnrefuted}
use Rattle.branch_search.specs.Tasks.{Task, splits_before, given_claim, IsBelowGiven}
use Rattle.branch_search.specs.Growing.{node_at, box_at, AreBoxesOf}
use Rattle.branch_search.specs.Shapes.{Shape, forks, numbers, IsShapeOf}
use Rattle.branch_search.specs.Settled.{IsSettled}
use Rattle.branch_search.specs.Parts.{IsOfPart}
use Rattle.branch_search.specs.Aside.{IsLeastWorth}
use Rattle.branch_search.specs.Parted.{Continues}
use Rattle.branch_search.specs.CurrentBoxes.{IsCurrentBox}

-- ---- what waits

-- the entry (z, k): number k waits with worth z
pub record IsEntry (task : Task) (cells : List Cell) (boxes : List (List Span)) (entry : ℤ × ℕ) : Type 0 where
  pub within : entry.1 < length cells
  pub list : ℕ
  pub node : node_at cells entry.1 ≡ Cost list
  pub worth : entry.0 ≡ task.worths (box_at boxes entry.1) list
  pub small : unsigned_abs entry.0 < 10 ^ 37

-- how many entries a number has
abbrev pub entries_of : ℕ → List (ℤ × ℕ) → ℕ
entries_of k entries = sum_by (λ entry. cond (entry.1 == k) 1 0) entries

-- each `cost` leaf waits, once, and nothing else does
pub record AreEntries (task : Task) (cells : List Cell) (boxes : List (List Span))
    (entries : List (ℤ × ℕ)) : Type 0 where
  pub sound : All (IsEntry task cells boxes) entries
  pub complete : (k j : ℕ) → k < length cells → node_at cells k ≡ Cost j
      → Contains entries (task.worths (box_at boxes k) j, k)
  pub once : (k : ℕ) → entries_of k entries ≤ 1

-- ---- worths

-- the value of the best plan is at least a bound, and so is the worth of each `cost` leaf
pub record IsFloor (task : Task) (cells : List Cell) (boxes : List (List Span)) (best : Option (List ℕ))
    (bound : Bound) : Type 0 where
  pub under_best : (plan : List ℕ) → best ≡ Some plan → IsAtLeast bound (task.value task.inst plan)
  pub under_costs : (k j : ℕ) → k < length cells → node_at cells k ≡ Cost j
      → IsAtLeast bound (task.worths (box_at boxes k) j)

-- ---- splits

-- z is at most the value of the best plan, and at most each worth that waits
pub record IsUnder (task : Task) (best : Option (List ℕ)) (waiting : List (ℤ × ℕ)) (z : ℤ) : Type 0 where
  pub under_best : (plan : List ℕ) → best ≡ Some plan → z ≤ℤ task.value task.inst plan
  pub under_waiting : All (λ entry. z ≤ℤ entry.0) waiting

-- a box that was split: no leaf refuted it, no worth of it is at least the value of the plan handed in, and none is
-- above what may be split
pub record IsOpened (task : Task) (best : Option (List ℕ)) (waiting : List (ℤ × ℕ)) (box : List Span) : Type 0 where
  pub unrefuted : IsUnrefuted task.inst box
  pub below_given : IsBelowGiven task box
  pub under : (j : ℕ) → j ≤ task.lists → IsUnder task best waiting (task.worths box j)

-- ---- the state

-- what holds of a search after so many splits of its own; so many leaves of the given tree became those of their boxes
pub record IsGrown (task : Task) (may : ℕ → Type 0) (given : Tree) (cells : List Cell) (waiting aside : List (ℤ × ℕ))
    (best : Option (List ℕ)) (seen splits : ℕ) : Type 0 where
  pub boxes : List (List Span)
  pub shape : Shape
  pub are_boxes : AreBoxesOf task.inst cells boxes
  pub is_shape : IsShapeOf cells shape
  pub splits_are : forks shape ≡ splits_before task + splits
  pub settled : (k : ℕ) → k < length cells → IsSettled task best (box_at boxes k) (node_at cells k)
  pub floors : (bound : Bound) → IsProved task.value task.inst (given_claim task bound)
      → IsFloor task cells boxes best bound
  pub waits : AreEntries task cells boxes (waiting ++ aside)
  pub continues : Continues (record {
    may = may;
    was_split = λ k. IsOpened task best waiting (box_at boxes k);
    cells = cells;
    waiting = waiting;
    aside = aside;
    next = seen;
    places = [];
  }) 0 given shape
  pub best_is : IsBestOver task.value task.inst task.incumbent best

-- the same of what is kept, where a part of the given tree may be split
pub record IsGrowth (task : Task) (part : Part) (growth : Growth) : Type 0 where
  pub given : Tree
  pub of_nodes : AreNodesOf task.inst task.lists (root_box task.inst) given task.given
  pub aside : List (ℤ × ℕ)
  pub least : IsLeastWorth growth.aside aside
  pub seen : ℕ
  pub state : IsGrown task (IsOfPart part) given growth.cells.items growth.waiting aside (plan_in growth.best) seen
      growth.splits
  pub valued : IsValued task.value task.inst growth.best
  pub current : IsCurrentBox task.inst growth.current

-- ---- what is left

-- z is the least worth that waits, and below the value of the best plan, or there is no such plan
pub record IsLeftWorth (best : Option Best) (entries : List (ℤ × ℕ)) (z : ℤ) : Type 0 where
  pub number : ℕ
  pub member : Contains entries (z, number)
  pub least : All (λ other. z ≤ℤ other.0) entries
  pub below : IsBelow best z

-- no worth that waits is
abbrev pub NoneIsLeft : Option Best → List (ℤ × ℕ) → Type 0
NoneIsLeft best entries = All (λ entry. ¬ IsBelow best entry.0) entries

-- the kept numbers are small
pub record IsKept (growth : Growth) : Type 0 where
  pub value : IsSmallValue growth.best
  pub worths : All (λ entry. unsigned_abs entry.0 < 10 ^ 37) growth.waiting
  pub aside : IfSome growth.aside (λ z. unsigned_abs z < 10 ^ 37)

-- ---- the end

-- the bound where z is the least worth that is left, or where none is
abbrev pub bound_with : Option ℤ → Option Best → Bound
bound_with (Some z) best = Least z
bound_with None None = NoPlan
bound_with None (Some best) = Least best.value

-- an answer says what is kept, where these entries are set aside
pub record IsAnswerOf (growth : Growth) (aside : List (ℤ × ℕ)) (answer : SearchEnd) : Type 0 where
  pub nodes : (shape : Shape) → IsShapeOf growth.cells.items shape
      → answer.nodes ≡ map (node_at growth.cells.items) (numbers shape)
  pub best : answer.best ≡ plan_in growth.best
  pub left : Option ℤ
  pub unfinished : answer.unfinished ≡ is_some left
  pub bound : answer.bound ≡ bound_with left growth.best
  pub some : IfSome left (IsLeftWorth growth.best (growth.waiting ++ aside))
  pub none : IfNone left (NoneIsLeft growth.best (growth.waiting ++ aside))
