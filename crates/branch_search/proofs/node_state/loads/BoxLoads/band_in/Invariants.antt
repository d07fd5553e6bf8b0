use Rattle.std.proofs.Common.{ℕ, ◌<◌, ◌≤◌}
use Rattle.certificate_lines.specs.declared.line.Side.{Side}
use Rattle.certificate_tree.specs.Holding.{IsOffLimit}
use Rattle.branch_search.proofs.node_state.loads.BoxLoads.band_in.Given as goal

abbrev pub invariant-loop-c : goal.invariant-loop-c
invariant-loop-c l = (d t : ℕ) (side : Side) → d < l.c → l.fn.window.from ≤ t → t < l.fn.window.past
    → ¬ IsOffLimit l.inst l.self.spans d t side
