-- What is known of each node of a tree under construction. Cited by private functions only: no part of any promise.
use Rattle.std.specs.Prelude.{◌≡◌, ◌^◌, ℕ, ◌<◌, ℤ, ◌≤ℤ◌, ⊤, ◌⊎◌, List, Option, Some, None, IfSome, unsigned_abs}
use Rattle.instance_model.specs.Tables.{Tables}
use Rattle.lagrange_bound.specs.declared.span.Span.{Span}
use Rattle.lagrange_bound.specs.Boxes.{IsPlanIn}
use Rattle.lagrange_bound.specs.Goals.{PlanValue}
use Rattle.certificate_tree.specs.declared.node.Node.{Node}
use Rattle.certificate_tree.specs.declared.node.Node.TheVariants.{Split, Cost, Point, Band, Excl, Empty}
use Rattle.certificate_tree.specs.Holding.{IsGreatest, IsSingle, BandHolds, ExclHolds, EmptyHolds}
use Rattle.certificate_tree.specs.Ranges.{IsLeafInRange}
use Rattle.certificate_tree.specs.Trees.{below, above}
use Rattle.branch_search.specs.declared.splitting.settling.Settled.{Settled}
use Rattle.branch_search.specs.Boxes.{IsUnrefuted}
use Rattle.branch_search.specs.Growing.{IsLeafNode}
use Rattle.branch_search.specs.Searched.{IsPointLeaf}
use Rattle.branch_search.specs.Tasks.{Task}

-- a box that waits: refuted by no leaf, of several plans, and j is the list of greatest worth
pub record IsWaitingBox (task : Task) (box : List Span) (j : ℕ) : Type 0 where
  pub unrefuted : IsUnrefuted task.inst box
  pub several : ¬ IsSingle box
  pub list : IsGreatest (task.worths box) task.lists j

-- what a leaf says of its box, beside the best plan so far; a split says nothing
abbrev pub IsSettled : Task → Option (List ℕ) → List Span → Node → Type 0
IsSettled task best box (Split i m) = ⊤
IsSettled task best box (Cost j) = IsWaitingBox task box j
IsSettled task best box Point = IsSingle box × IsPointLeaf task.value task.inst best box
IsSettled task best box (Band c t side) =
    IsLeafInRange task.inst task.lists (Band c t side) × BandHolds task.inst box c t side
IsSettled task best box (Excl e) = IsLeafInRange task.inst task.lists (Excl e) × ExclHolds task.inst box e
IsSettled task best box (Empty i) = IsLeafInRange task.inst task.lists (Empty i) × EmptyHolds task.inst box i

-- the worth of a box that waits, and nothing for another
abbrev pub IsWorthOf : Task → List Span → Node → Option ℤ → Type 0
IsWorthOf task box (Cost j) worth = worth ≡ Some (task.worths box j)
IsWorthOf task box (Split i m) worth = worth ≡ None
IsWorthOf task box Point worth = worth ≡ None
IsWorthOf task box (Band c t side) worth = worth ≡ None
IsWorthOf task box (Excl e) worth = worth ≡ None
IsWorthOf task box (Empty i) worth = worth ≡ None

-- ---- the best plan

-- a plan of the box is no worse than the best one
pub record IsBetterIn (value : PlanValue) (inst : Tables) (box : List Span) (old : Option (List ℕ))
    (plan : List ℕ) : Type 0 where
  pub inside : IsPlanIn inst box plan
  pub better : (other : List ℕ) → old ≡ Some other → value inst plan ≤ℤ value inst other

-- the best plan stays, or such a plan is the best one
abbrev pub IsImprovedIn : PlanValue → Tables → List Span → Option (List ℕ) → Option (List ℕ) → Type 0
IsImprovedIn value inst box old new =
    (new ≡ old) ⊎ ((plan : List ℕ) × (new ≡ Some plan) × IsBetterIn value inst box old plan)

-- ---- settled leaves

-- a leaf that is right for its box, and the worth of the box where it waits
pub record IsLeafOf (task : Task) (best : Option (List ℕ)) (box : List Span) (leaf : Settled) : Type 0 where
  pub no_split : IsLeafNode leaf.node
  pub settled : IsSettled task best box leaf.node
  pub worth : IsWorthOf task box leaf.node leaf.worth
  pub small : IfSome leaf.worth (λ z. unsigned_abs z < 10 ^ 37)

-- the two leaves are those of the parts of a split, and the best plan may have become better in either
pub record ArePartsOf (task : Task) (box : List Span) (i m : ℕ) (old new : Option (List ℕ))
    (left right : Settled) : Type 0 where
  pub left_is : IsLeafOf task new (below box i m) left
  pub right_is : IsLeafOf task new (above box i m) right
  pub improved : IsImprovedIn task.value task.inst box old new
