-- Which certificates are in range for an instance.
use Rattle.std.specs.Prelude.{◌≡◌, ◌^◌, ℕ, ◌<◌, ◌≤◌, ⊤, List, [], length, All, unsigned_abs}
use Rattle.instance_model.specs.Tables.{Tables}
use Rattle.lagrange_bound.specs.declared.span.Span.{Span}
use Rattle.lagrange_bound.specs.Prices.{PriceList, IsPriceList}
use Rattle.certificate_lines.specs.declared.line.Bound.{Bound}
use Rattle.certificate_lines.specs.declared.line.Bound.TheVariants.{NoPlan, Least}
use Rattle.certificate_lines.specs.declared.line.Version.{Version}
use Rattle.certificate_lines.specs.declared.line.Version.TheVariants.{One, Two}
use Rattle.certificate_tree.specs.declared.node.Node.{Node}
use Rattle.certificate_tree.specs.declared.node.Node.TheVariants.{Split, Cost, Point, Band, Excl, Empty}
use Rattle.certificate_tree.specs.declared.certificate.Certificate.{Certificate}
use Rattle.certificate_tree.specs.Trees.{Tree, leaf, split, pre_order, root_box, below, above, IsSplit}

-- the node is a leaf whose numbers are in range, where the certificate has this many price lists
abbrev pub IsLeafInRange : Tables → ℕ → Node → Type 0
IsLeafInRange inst lists (Split i m) = ⊥
IsLeafInRange inst lists (Cost j) = j ≤ lists
IsLeafInRange inst lists Point = ⊤
IsLeafInRange inst lists (Band c t side) = (c < length inst.resource_names) × (1 ≤ t) × (t ≤ inst.periods)
IsLeafInRange inst lists (Excl e) = e < length inst.exclusion_names
IsLeafInRange inst lists (Empty i) = i < length inst.names

-- each split of the tree is inside an interval of its box, and the numbers of each leaf are in range
abbrev pub IsTreeInRange : Tables → ℕ → List Span → Tree → Type 0
IsTreeInRange inst lists box (leaf n) = IsLeafInRange inst lists n
IsTreeInRange inst lists box (split i m l r) =
    IsSplit box i m × IsTreeInRange inst lists (below box i m) l × IsTreeInRange inst lists (above box i m) r

-- the nodes are those of a tree in range over a box
pub record AreNodesOf (inst : Tables) (lists : ℕ) (box : List Span) (t : Tree) (nodes : List Node) : Type 0 where
  pub order : pre_order t ≡ nodes
  pub in_range : IsTreeInRange inst lists box t

-- ---- certificates

-- a bound is a number up to 10^36, or none
abbrev pub IsBoundInRange : Bound → Type 0
IsBoundInRange NoPlan = ⊤
IsBoundInRange (Least b) = unsigned_abs b ≤ 10 ^ 36

-- version 1 has no prices on exclusions
abbrev pub HasPricesOf : Version → PriceList → Type 0
HasPricesOf One prices = prices.ex ≡ []
HasPricesOf Two prices = ⊤

-- the tree of a certificate stands over the box of all starts
abbrev pub IsTreeOf : Tables → Certificate → Tree → Type 0
IsTreeOf inst cert t = AreNodesOf inst (length cert.lists) (root_box inst) t cert.nodes

-- the certificate is in range for the instance
pub record IsInRange (inst : Tables) (cert : Certificate) : Type 0 where
  pub bound : IsBoundInRange cert.bound
  pub few : length cert.lists ≤ 16
  pub lists : All (IsPriceList inst) cert.lists
  pub version : All (HasPricesOf cert.version) cert.lists
  pub tree : (t : Tree) × IsTreeOf inst cert t
