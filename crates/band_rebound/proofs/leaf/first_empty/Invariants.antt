use Rattle.std.proofs.Common.{ℕ, ◌<◌, length}
use Rattle.lagrange_bound.specs.Boxes.{starts_in, span_of}
use Rattle.band_rebound.proofs.leaf.first_empty.Given as goal

abbrev pub invariant-loop-i : goal.invariant-loop-i
invariant-loop-i l = (j : ℕ) → j < l.i → 0 < length (starts_in l.inst j (span_of l.spans j))
