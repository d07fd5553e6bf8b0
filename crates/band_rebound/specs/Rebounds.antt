-- What a tree of boxes and a certificate become where the bands of their instance were changed: this is the statement.
use Rattle.std.specs.Prelude.{◌≡◌, ℕ, List, length}
use Rattle.instance_model.specs.Tables.{Tables}
use Rattle.lagrange_bound.specs.Goals.{risk_base}
use Rattle.certificate_tree.specs.declared.node.Node.{Node}
use Rattle.certificate_tree.specs.declared.certificate.Certificate.{Certificate}
use Rattle.certificate_tree.specs.Trees.{Tree, root_box}
use Rattle.certificate_tree.specs.Ranges.{AreNodesOf}
use Rattle.certificate_tree.specs.Holding.{Worths, worth_by}
use Rattle.band_rebound.specs.declared.rebounded.ReboundTree.{ReboundTree}
use Rattle.band_rebound.specs.declared.rebounded.Rebounded.{Rebounded}
use Rattle.band_rebound.specs.Rebinding.{TreeBecomes, tree_worths, IsBoundOf, Counts}

-- the splits stay, each leaf becomes the first that is right for its box, by the worths of boxes by list 0 and so many
-- others, the bound is the least of what the new leaves are worth, and the leaves are counted that are the same as
-- before
pub record IsReboundBy (inst : Tables) (lists : ℕ) (worths : Worths) (nodes : List Node) (answer : ReboundTree)
    : Type 0 where
  -- the tree of these nodes, and the one that it becomes
  pub old : Tree
  pub of_old : AreNodesOf inst lists (root_box inst) old nodes
  pub new : Tree
  pub of_new : AreNodesOf inst lists (root_box inst) new answer.nodes
  pub becomes : TreeBecomes inst lists worths (root_box inst) old new
  -- the new bound
  pub bound : IsBoundOf (tree_worths inst worths (root_box inst) new) answer.bound
  -- how many leaves are the same, and how many are others
  pub counts : Counts old new (record { kept = answer.kept; changed = answer.changed })

-- ---- certificates

-- what a certificate becomes, without its version and its lists
abbrev pub tree_of : Rebounded → ReboundTree
tree_of answer =
    record {
      bound = answer.cert.bound;
      nodes = answer.cert.nodes;
      kept = answer.kept;
      changed = answer.changed;
    }

-- the version and the lists stay, and the tree becomes what it does by the worths of these lists
pub record IsReboundOf (inst : Tables) (cert : Certificate) (answer : Rebounded) : Type 0 where
  pub version : answer.cert.version ≡ cert.version
  pub lists : answer.cert.lists ≡ cert.lists
  pub tree : IsReboundBy inst (length cert.lists) (worth_by risk_base inst cert.lists) cert.nodes (tree_of answer)
