use Rattle.std.proofs.Common.{arith}
use Rattle.branch_search.proofs.NodeStateBoxLemmas.{AreSpansTo-all}
use Rattle.branch_search.proofs.node_state.loads.BoxLoads.set_spans.Goals as goal

pub returns-clause-spans : goal.returns-clause-spans
returns-clause-spans c =
    AreSpansTo-all c.args.spans.now c.loop-i.i c.loop-i.self.spans c.loop-i.invariant.spans (omega arith)
