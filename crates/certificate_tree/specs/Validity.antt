-- What a tree of boxes claims, when a claim is proved and a certificate valid, which leaf is the first that doesn't hold,
-- and what a valid certificate bounds.
use Rattle.std.specs.Prelude.{◌≡◌, ℕ, ◌+◌, ◌-◌, ◌<◌, ◌≤◌, ◌≤ℤ◌, List, length, map, Some, All, slice_index_or}
use Rattle.instance_model.specs.Tables.{Tables}
use Rattle.instance_model.specs.Rules.{IsFeasible}
use Rattle.lagrange_bound.specs.declared.span.Span.{Span}
use Rattle.lagrange_bound.specs.Goals.{Bases, PlanValue}
use Rattle.lagrange_bound.specs.Boxes.{IsBox, HasStarts, IsPlanIn}
use Rattle.certificate_lines.specs.declared.line.Bound.{Bound}
use Rattle.certificate_tree.specs.declared.node.Node.{Node}
use Rattle.certificate_tree.specs.declared.certificate.Certificate.{Certificate}
use Rattle.certificate_tree.specs.Trees.{Tree, Leaf, leaves, root_box}
use Rattle.certificate_tree.specs.Ranges.{AreNodesOf}
use Rattle.certificate_tree.specs.Holding.{Worths, worth_by, LeafHolds, IsAtLeast}

-- a bound, the worths of boxes by list 0 and so many price lists, and the nodes of a tree
pub record Claim : Type 0 where
  pub bound : Bound
  pub lists : ℕ
  pub worths : Worths
  pub nodes : List Node

-- that of a certificate, for a goal's bases
abbrev pub claim_of : Bases → Tables → Certificate → Claim
claim_of base inst cert =
    record {
      bound = cert.bound;
      lists = length cert.lists;
      worths = worth_by base inst cert.lists;
      nodes = cert.nodes;
    }

-- the tree of a claim stands over the box of all starts
abbrev pub IsTreeOfClaim : Tables → Claim → Tree → Type 0
IsTreeOfClaim inst claim t = AreNodesOf inst claim.lists (root_box inst) t claim.nodes

-- a leaf holds on its box
abbrev pub ClaimLeafHolds : PlanValue → Tables → Claim → Leaf → Type 0
ClaimLeafHolds value inst claim leaf = LeafHolds value inst claim.bound claim.worths leaf.box leaf.node

-- a leaf of the certificate holds on its box
abbrev pub CertLeafHolds : Bases → PlanValue → Tables → Certificate → Leaf → Type 0
CertLeafHolds base value inst cert = ClaimLeafHolds value inst (claim_of base inst cert)

-- the nodes are those of a tree in range, and each of its leaves holds
pub record IsProved (value : PlanValue) (inst : Tables) (claim : Claim) : Type 0 where
  pub tree : Tree
  pub of_nodes : IsTreeOfClaim inst claim tree
  pub holds : All (ClaimLeafHolds value inst claim) (leaves (root_box inst) tree)

-- n, counted from 1, is the number of the first of these leaves that doesn't hold
pub record FailsFirst (Holds : Leaf → Type 0) (ls : List Leaf) (n : ℕ) : Type 0 where
  pub from : 1 ≤ n
  pub to : n ≤ length ls
  pub before : (k : ℕ) (d : Leaf) → k + 1 < n → Holds (slice_index_or ls k d)
  pub fails : (d : Leaf) → ¬ Holds (slice_index_or ls (n - 1) d)

-- the nodes are those of a tree in range, and leaf n is the first of its leaves that doesn't hold
pub record IsFirstUnproved (value : PlanValue) (inst : Tables) (claim : Claim) (n : ℕ) : Type 0 where
  pub tree : Tree
  pub of_nodes : IsTreeOfClaim inst claim tree
  pub first : FailsFirst (ClaimLeafHolds value inst claim) (leaves (root_box inst) tree) n

-- a certificate is valid where its claim is proved
abbrev pub IsValid : Bases → PlanValue → Tables → Certificate → Type 0
IsValid base value inst cert = IsProved value inst (claim_of base inst cert)

-- leaf n is the first of its leaves that doesn't hold
abbrev pub IsFirstFailing : Bases → PlanValue → Tables → Certificate → ℕ → Type 0
IsFirstFailing base value inst cert = IsFirstUnproved value inst (claim_of base inst cert)

-- ---- what worths owe

-- no feasible plan in a box has a value below a worth of the box
abbrev pub BoundBoxes : PlanValue → Tables → ℕ → Worths → Type 0
BoundBoxes value inst lists worths =
    (box : List Span) (starts : List ℕ) (j : ℕ) → j ≤ lists → IsBox inst box → IsPlanIn inst box starts
    → worths box j ≤ℤ value inst starts

-- the worths are the same for each box of the instance whose intervals have allowed starts
abbrev pub AreSameWorths : Tables → ℕ → Worths → Worths → Type 0
AreSameWorths inst lists worths others =
    (box : List Span) (j : ℕ) → j ≤ lists → IsBox inst box → HasStarts inst box → worths box j ≡ others box j

-- every feasible plan has a value of at least the bound; where that is none, there is no feasible plan
abbrev pub BoundsPlans : PlanValue → Tables → Bound → Type 0
BoundsPlans value inst bound =
    (starts : List ℕ) → length starts ≡ length inst.names → IsFeasible inst (map Some starts)
    → IsAtLeast bound (value inst starts)
