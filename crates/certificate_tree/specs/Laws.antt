-- Laws of trees and certificates.
use Rattle.std.specs.Prelude.{◌≡◌, ℕ, ◌-◌, ◌<◌, ◌≤◌, ◌⊎◌, List, length, slice_index, All, Any}
use Rattle.instance_model.specs.Tables.{Tables, tmax}
use Rattle.instance_model.specs.Fitting.{IsFitting}
use Rattle.lagrange_bound.specs.declared.span.Span.{Span}
use Rattle.lagrange_bound.specs.Prices.{PriceList, IsPriceList}
use Rattle.lagrange_bound.specs.Goals.{Bases, PlanValue}
use Rattle.lagrange_bound.specs.Tabulated.{PriceRows}
use Rattle.lagrange_bound.specs.Boxes.{IsBox, IsPlanIn}
use Rattle.certificate_tree.specs.declared.node.Node.{Node}
use Rattle.certificate_tree.specs.declared.certificate.Certificate.{Certificate}
use Rattle.certificate_lines.specs.declared.line.Side.{Side}
use Rattle.certificate_tree.specs.Trees.{Tree, leaves, root_box, below, above, IsSplit, AreStartsIn}
use Rattle.certificate_tree.specs.Holding.{Worths, worth_by, BandHolds, ExclHolds, EmptyHolds}
use Rattle.certificate_tree.specs.Ranges.{AreNodesOf, IsTreeInRange, IsInRange}
use Rattle.certificate_tree.specs.Validity.{Claim, IsProved, IsFirstUnproved, IsValid, BoundBoxes, AreSameWorths}
use Rattle.certificate_tree.specs.Validity.{BoundsPlans}
use Rattle.certificate_tree.specs.PriceTables.{table_worths, AreTablesOf}

-- a valid certificate in range bounds every feasible plan
abbrev pub ValidBoundsPlans : Bases → PlanValue → Type 0
ValidBoundsPlans base value = (inst : Tables) (cert : Certificate) → IsFitting inst → IsInRange inst cert
    → IsValid base value inst cert → BoundsPlans value inst cert.bound

-- a proved claim bounds every feasible plan, where its worths bound the plans of boxes
abbrev pub ProvedBoundsPlans : Type 0
ProvedBoundsPlans =
    (value : PlanValue) (inst : Tables) (claim : Claim) → IsFitting inst
    → BoundBoxes value inst claim.lists claim.worths → IsProved value inst claim → BoundsPlans value inst claim.bound

-- no feasible plan in a box has a value below a worth of the box by price lists in range
abbrev pub ListsBoundBoxes : Bases → PlanValue → Type 0
ListsBoundBoxes base value =
    (inst : Tables) (lists : List PriceList) → IsFitting inst → All (IsPriceList inst) lists
    → BoundBoxes value inst (length lists) (worth_by base inst lists)

-- nor by tables that give such worths
abbrev pub TablesBoundBoxes : Type 0
TablesBoundBoxes =
    (value : PlanValue) (inst : Tables) (lists : ℕ) (worths : Worths) (tables : List PriceRows)
    → AreTablesOf inst lists worths tables → BoundBoxes value inst lists worths
    → BoundBoxes value inst (length tables - 1) (table_worths tables)

-- what is proved by some worths is proved by the same ones, and so is which leaf is the first that doesn't hold
abbrev pub SameWorthsProveTheSame : Type 0
SameWorthsProveTheSame =
    (value : PlanValue) (inst : Tables) (claim : Claim) (worths : Worths) → IsFitting inst
    → AreSameWorths inst claim.lists claim.worths worths
    → (IsProved value inst claim → IsProved value inst (record claim { worths = worths }))
    × ((n : ℕ) → IsFirstUnproved value inst claim n → IsFirstUnproved value inst (record claim { worths = worths }) n)

-- each plan of a box lies in one of the two parts of its split
abbrev pub PartsHoldPlans : Type 0
PartsHoldPlans =
    (inst : Tables) (box : List Span) (i m : ℕ) (starts : List ℕ) → length box ≡ length inst.names → IsSplit box i m
    → IsPlanIn inst box starts → IsPlanIn inst (below box i m) starts ⊎ IsPlanIn inst (above box i m) starts

-- each list of starts in a box lies in one of the two parts of its split, feasible or not
abbrev pub PartsHoldStarts : Type 0
PartsHoldStarts =
    (box : List Span) (i m : ℕ) (starts : List ℕ) → IsSplit box i m → AreStartsIn box starts
    → AreStartsIn (below box i m) starts ⊎ AreStartsIn (above box i m) starts

-- the two parts of a box of an instance are such boxes
abbrev pub PartsAreBoxes : Type 0
PartsAreBoxes = (inst : Tables) (box : List Span) (i m : ℕ) → IsBox inst box → IsSplit box i m
    → IsBox inst (below box i m) × IsBox inst (above box i m)

-- the same nodes are those of one tree
abbrev pub NodesAreOneTree : Type 0
NodesAreOneTree =
    (inst : Tables) (lists : ℕ) (box : List Span) (nodes : List Node) (t u : Tree) → AreNodesOf inst lists box t nodes
    → AreNodesOf inst lists box u nodes → t ≡ u

-- ---- leaves

-- each list of starts in a box lies in the box of a leaf of every tree in range over it
abbrev pub LeavesHoldStarts : Type 0
LeavesHoldStarts =
    (inst : Tables) (lists : ℕ) (box : List Span) (t : Tree) (starts : List ℕ) → IsTreeInRange inst lists box t
    → AreStartsIn box starts → Any (λ leaf. AreStartsIn leaf.box starts) (leaves box t)

-- starts from 1 to tmax, one for each intervention, lie in the box of all starts
abbrev pub RootHoldsStarts : Type 0
RootHoldsStarts =
    (inst : Tables) (starts : List ℕ) → length starts ≡ length inst.names
    → ((i : ℕ) → i < length inst.names → (1 ≤ slice_index starts i) × (slice_index starts i ≤ tmax inst i))
    → AreStartsIn (root_box inst) starts

-- no feasible plan lies in the box
abbrev pub HasNoPlan : Tables → List Span → Type 0
HasNoPlan inst box = (starts : List ℕ) → ¬ IsPlanIn inst box starts

-- a box on which a `band` leaf holds has no feasible plan
abbrev pub BandLeavesNoPlan : Type 0
BandLeavesNoPlan =
    (inst : Tables) (box : List Span) (c t : ℕ) (side : Side) → c < length inst.resource_names
    → 1 ≤ t → t ≤ inst.periods
    → BandHolds inst box c t side → HasNoPlan inst box

-- nor has one on which an `excl` leaf holds
abbrev pub ExclLeavesNoPlan : Type 0
ExclLeavesNoPlan =
    (inst : Tables) (box : List Span) (e : ℕ) → IsFitting inst → e < length inst.exclusion_names
    → ExclHolds inst box e → HasNoPlan inst box

-- nor one on which an `empty` leaf holds
abbrev pub EmptyLeavesNoPlan : Type 0
EmptyLeavesNoPlan =
    (inst : Tables) (box : List Span) (i : ℕ) → i < length inst.names → EmptyHolds inst box i → HasNoPlan inst box
