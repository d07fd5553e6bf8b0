use Rattle.std.proofs.Common.{◌≡◌, ℕ, ◌<◌, ◌≤◌, ◌*◌, length, unsigned_abs}
use Rattle.fixed_num.specs.Sums.{sum_below}
use Rattle.lagrange_bound.specs.Boxes.{span_of, starts_in}
use Rattle.certificate_tree.specs.Loads.{load_by_start}
use Rattle.certificate_tree.specs.Extremes.{extreme_over}
use Rattle.certificate_tree.proofs.band.extreme_load_of.Given as goal

abbrev pub invariant-loop-i : goal.invariant-loop-i
invariant-loop-i l = record {
  value : l.sum ≡ sum_below l.i (λ j. extreme_over l.side (load_by_start l.inst l.c l.t j)
      (starts_in l.inst j (span_of l.spans j)));
  small : unsigned_abs l.sum ≤ l.i * 100_000_000_000_000_000_000;
  starts : (j : ℕ) → j < l.i → 0 < length (starts_in l.inst j (span_of l.spans j));
}
