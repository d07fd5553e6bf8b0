use Rattle.std.proofs.Common.{◌≡◌, ◌*◌, ◌≤◌, unsigned_abs}
use Rattle.fixed_num.specs.Sums.{sum_below}
use Rattle.lagrange_bound.specs.Prices.{zero_list}
use Rattle.lagrange_bound.specs.Goals.{risk_base}
use Rattle.certificate_tree.specs.Loads.{greatest_over}
use Rattle.price_ladder.specs.Raised.{root_starts}
use Rattle.price_ladder.proofs.least_gain.greatest_total.Given as goal

abbrev pub invariant-loop-i : goal.invariant-loop-i
invariant-loop-i l = record {
  value : l.sum ≡ sum_below l.i (λ i. greatest_over (risk_base l.inst (zero_list l.inst) i) (root_starts l.inst i));
  small : unsigned_abs l.sum ≤ l.i * 1_000_000_000_000_000_000_000_000_000_000;
}
