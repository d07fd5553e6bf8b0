use Rattle.std.proofs.Common.{ℕ, ◌<◌}
use Rattle.certificate_tree.specs.Holding.{ExclHolds}
use Rattle.branch_search.proofs.node_state.exclusions.holding_exclusion.Given as goal

abbrev pub invariant-loop-e : goal.invariant-loop-e
invariant-loop-e l = (d : ℕ) → d < l.e → ¬ ExclHolds l.inst l.spans d
