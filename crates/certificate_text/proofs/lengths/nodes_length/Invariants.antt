use Rattle.std.proofs.Common.{◌≡◌, take, map}
use Rattle.certificate_text.specs.Text.{text_of_lines, node_line}
use Rattle.certificate_text.specs.Lengths.{counted_length}
use Rattle.certificate_text.proofs.lengths.nodes_length.Given as goal

abbrev pub invariant-loop-node : goal.invariant-loop-node
invariant-loop-node l = l.total ≡ counted_length (text_of_lines (map node_line (take l.node-index l.nodes)))
