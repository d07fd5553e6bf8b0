-- Nodes that lead to the end of a tree are those of a tree in range.
use Rattle.std.proofs.Common.{◌∙◌, ℕ, List, [], ◌∷◌, map}
use Rattle.instance_model.specs.Tables.{Tables}
use Rattle.lagrange_bound.specs.declared.span.Span.{Span}
use Rattle.certificate_tree.specs.declared.node.Node.{Node}
use Rattle.certificate_tree.specs.Trees.{Tree}
use Rattle.certificate_tree.specs.Ranges.{AreNodesOf}
use Rattle.certificate_text.specs.Text.{node_line}
use Rattle.certificate_text.specs.Grammar.{nodes, Leads}
use Rattle.certificate_text.proofs.LedLemmas.{tree_led}
use Rattle.certificate_text.proofs.TellLemmas.{nodes_tell}

-- over one box the nodes are those of one tree
pub tree_of : (inst : Tables) (m : ℕ) (box : List Span) (read : List Node)
    → Leads inst (nodes m (box ∷ [])) (map node_line read) (nodes m []) → (t : Tree) × AreNodesOf inst m box t read
tree_of inst m box read leads =
    let led = tree_led inst m m box (map node_line read) leads in (
      led.tree.0,
      record {
        order = led.tree.1.order ∙ nodes_tell led.nodes_of read led.spelled;
        in_range = led.tree.1.in_range;
      },
    )
