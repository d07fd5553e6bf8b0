-- How many splits are among the nodes of a certificate.
use Rattle.std.proofs.Common.{◌≡◌, ℕ, ◌+◌, ◌<◌, sym, ◌∙◌, ap, List, [], ◌∷◌, length, take, get_or}
use Rattle.std.proofs.lemmas.List.{take_more}
use Rattle.instance_model.specs.Tables.{Tables}
use Rattle.certificate_tree.specs.declared.node.Node.{Node}
use Rattle.certificate_tree.specs.declared.certificate.Certificate.{Certificate}
use Rattle.certificate_tree.specs.Trees.{Tree, root_box}
use Rattle.certificate_tree.specs.Ranges.{IsTreeOf}
use Rattle.branch_search.specs.Splits.{split_boxes, split_count}
use Rattle.branch_search.proofs.SplitLemmas.{split_count-append, tree_splits}

-- one more node
pub split_more : (nodes : List Node) (n : ℕ) (d : Node) → n < length nodes
    → split_count (take (n + 1) nodes) ≡ split_count (take n nodes) + split_count (get_or nodes n d ∷ [])
split_more nodes n d low =
    ap split_count (take_more nodes n d low) ∙ split_count-append (take n nodes) (get_or nodes n d ∷ [])

-- the splits among the nodes of a certificate are those of its tree
pub splits_are : (inst : Tables) (cert : Certificate) (t : Tree) → IsTreeOf inst cert t
    → split_count cert.nodes ≡ length (split_boxes (root_box inst) t)
splits_are inst cert t of_nodes =
    ap split_count (sym of_nodes.order)
    ∙ tree_splits inst (length cert.lists) (root_box inst) t of_nodes.in_range
