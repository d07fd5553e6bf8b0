use Rattle.std.proofs.Common.{◌≤◌, ◌<◌, ℕ}
use Rattle.std.specs.Prelude.{slice_index}
use Rattle.lagrange_bound.specs.Boxes.{span_of}
use Rattle.branch_search.proofs.closing.point.are_within.Given as goal

abbrev pub invariant-loop-k : goal.invariant-loop-k
invariant-loop-k l = (j : ℕ) → j < l.k → ((span_of l.spans j).from ≤ slice_index l.starts j)
    × (slice_index l.starts j ≤ (span_of l.spans j).to)
