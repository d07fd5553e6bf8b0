use Rattle.std.proofs.Common.{ℕ, ◌<◌, length}
use Rattle.lagrange_bound.specs.Boxes.{span_of, starts_in}
use Rattle.certificate_tree.proofs.starts.has_starts.Given as goal

abbrev pub invariant-loop-i : goal.invariant-loop-i
invariant-loop-i l = (j : ℕ) → j < l.i → 0 < length (starts_in l.inst j (span_of l.spans j))
