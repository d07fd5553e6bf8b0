use Rattle.std.proofs.Common.{take, map}
use Rattle.certificate_text.specs.Text.{node_line}
use Rattle.certificate_text.proofs.WriteLemmas.{HasLines}
use Rattle.certificate_text.proofs.write.write_nodes.Given as goal

abbrev pub invariant-loop-node : goal.invariant-loop-node
invariant-loop-node g l =
    HasLines (map node_line (take l.node-index l.nodes)) (g.D.Desk.shows l.fn.desk) (g.D.Desk.shows l.desk)
