use Rattle.std.proofs.Common.{◌≡◌, ℕ, ◌<◌}
use Rattle.lagrange_bound.specs.Boxes.{span_of}
use Rattle.branch_search.proofs.choosing.middle.middle.Given as goal

abbrev pub invariant-loop-i : goal.invariant-loop-i
invariant-loop-i l = (j : ℕ) → j < l.i → (span_of l.spans j).from ≡ (span_of l.spans j).to
