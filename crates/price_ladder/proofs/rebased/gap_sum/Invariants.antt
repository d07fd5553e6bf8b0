use Rattle.std.proofs.Common.{◌≡◌, ◌*◌, ◌≤◌, unsigned_abs, get_or}
use Rattle.fixed_num.specs.Sums.{sum_below}
use Rattle.price_ladder.specs.Kept.{gap_of}
use Rattle.price_ladder.proofs.rebased.gap_sum.Given as goal

abbrev pub invariant-loop-i : goal.invariant-loop-i
invariant-loop-i l = record {
  value : l.sum ≡ sum_below l.i (λ i. gap_of l.inst l.prices l.t l.bases i (get_or l.starts i 0));
  small : unsigned_abs l.sum ≤ l.i * 2_000_000_000_000_000_000_000_000_000_000;
}
