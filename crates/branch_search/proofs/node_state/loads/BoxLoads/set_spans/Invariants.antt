use Rattle.branch_search.specs.node_state.KeptLoads.{IsOver}
use Rattle.branch_search.proofs.NodeStateBoxLemmas.{AreSpansTo}
use Rattle.branch_search.proofs.node_state.loads.BoxLoads.set_spans.Given as goal

abbrev pub invariant-loop-i : goal.invariant-loop-i
invariant-loop-i l = record {
  over : IsOver l.inst l.self;
  spans : AreSpansTo l.spans l.i l.self.spans;
}
