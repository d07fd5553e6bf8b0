use Rattle.branch_search.specs.node_state.Extents.{extent_at, replaced}
use Rattle.branch_search.proofs.NodeStateBoxLemmas.{AreChangedTo}
use Rattle.branch_search.proofs.node_state.loads.replace_loads.Given as goal

abbrev pub invariant-loop-z : goal.invariant-loop-z
invariant-loop-z l = AreChangedTo (λ w range. replaced range (extent_at l.before w) l.before_count
    (extent_at l.after w) l.after_count) l.z l.fn.loads l.loads
