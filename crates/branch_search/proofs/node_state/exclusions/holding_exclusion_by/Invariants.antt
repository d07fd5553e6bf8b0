use Rattle.std.proofs.Common.{ℕ, ◌<◌, get_or}
use Rattle.certificate_tree.specs.Holding.{ExclHolds}
use Rattle.branch_search.proofs.node_state.exclusions.holding_exclusion_by.Given as goal

abbrev pub invariant-loop-e : goal.invariant-loop-e
invariant-loop-e l = (k : ℕ) → k < l.e-index → ¬ ExclHolds l.inst l.spans (get_or l.named k 0)
