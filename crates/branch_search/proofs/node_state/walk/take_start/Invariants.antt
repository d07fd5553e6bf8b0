use Rattle.branch_search.proofs.NodeStateWalkLemmas.{AreTakenTo}
use Rattle.branch_search.proofs.node_state.walk.take_start.Given as goal

abbrev pub invariant-loop-k : goal.invariant-loop-k
invariant-loop-k l = AreTakenTo l.inst l.cells l.count l.from l.k l.fn.extents l.extents
