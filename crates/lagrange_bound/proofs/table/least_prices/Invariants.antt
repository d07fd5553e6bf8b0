use Rattle.std.proofs.Common.{◌≡◌, ◌≤◌, ◌*◌, pos, unsigned_abs, unwrap_or}
use Rattle.fixed_num.specs.Sums.{sum_below}
use Rattle.lagrange_bound.specs.Least.{least_over}
use Rattle.lagrange_bound.specs.Boxes.{span_of}
use Rattle.lagrange_bound.specs.Tabulated.{entry_of, priced_in}
use Rattle.lagrange_bound.proofs.table.least_prices.Given as goal

abbrev pub invariant-loop-i : goal.invariant-loop-i
invariant-loop-i l = record {
  value : l.sum ≡ sum_below l.i (λ i. least_over (λ s. unwrap_or (entry_of l.table i s) (pos 0))
      (priced_in l.table i (span_of l.spans i)));
  small : unsigned_abs l.sum ≤ l.i * 8_000_000_000_000_000_000_000_000_000_000_000;
}
