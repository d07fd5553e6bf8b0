-- Which certificates by refined price lists are in range for an instance.
use Rattle.std.specs.Prelude.{◌≤◌, length, All}
use Rattle.instance_model.specs.Tables.{Tables}
use Rattle.certificate_tree.specs.Trees.{Tree, root_box}
use Rattle.certificate_tree.specs.Ranges.{AreNodesOf, IsBoundInRange}
use Rattle.refined_prices.specs.RefinedLists.{IsRefinedList}
use Rattle.refined_check.specs.declared.certificate.certificate.RefinedCertificate.{RefinedCertificate}
use Rattle.refined_check.specs.certificate.Orders.{IsInOrder}

-- the tree of a certificate stands over the box of all starts
abbrev pub IsRefinedTreeOf : Tables → RefinedCertificate → Tree → Type 0
IsRefinedTreeOf inst cert t = AreNodesOf inst (length cert.lists) (root_box inst) t cert.nodes

-- the certificate is in range for the instance
pub record IsRefinedInRange (inst : Tables) (cert : RefinedCertificate) : Type 0 where
  pub bound : IsBoundInRange cert.bound
  pub few : length cert.lists ≤ 16
  pub lists : All (IsRefinedList inst) cert.lists
  pub in_order : All IsInOrder cert.lists
  pub tree : (t : Tree) × IsRefinedTreeOf inst cert t
