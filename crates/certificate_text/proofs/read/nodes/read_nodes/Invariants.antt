use Rattle.std.proofs.Common.{length}
use Rattle.certificate_text.proofs.ReadNodeLemmas.{ReadsNodes}
use Rattle.certificate_text.proofs.read.nodes.read_nodes.Given as goal

abbrev pub invariant-loop-alloc : goal.invariant-loop-alloc
invariant-loop-alloc l = ReadsNodes l.inst l.lists l.fn.lines l.nodes.items l.path l.lines

abbrev pub decreases-loop-alloc : goal.decreases-loop-alloc
decreases-loop-alloc l = length l.lines.rest
