use Rattle.std.proofs.Common.{ℕ, ◌<◌, ◌≤◌}
use Rattle.certificate_lines.specs.declared.line.Side.{Side}
use Rattle.certificate_tree.specs.Holding.{IsOffLimit}
use Rattle.branch_search.proofs.node_state.loads.BoxLoads.band_off.Given as goal

abbrev pub invariant-loop-t : goal.invariant-loop-t
invariant-loop-t l = (u : ℕ) (side : Side) → l.fn.window.from ≤ u → u < l.t → ¬ IsOffLimit l.inst l.self.spans l.c u
    side
