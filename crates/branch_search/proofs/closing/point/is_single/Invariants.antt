use Rattle.std.proofs.Common.{◌≡◌, ℕ, ◌<◌}
use Rattle.lagrange_bound.specs.Boxes.{span_of}
use Rattle.branch_search.proofs.closing.point.is_single.Given as goal

abbrev pub invariant-loop-span : goal.invariant-loop-span
invariant-loop-span l = (j : ℕ) → j < l.span-index → (span_of l.spans j).from ≡ (span_of l.spans j).to
