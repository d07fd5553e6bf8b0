use Rattle.std.proofs.Common.{◌≡◌, ◌≤◌, ◌+◌, ◌*◌, unsigned_abs}
use Rattle.fixed_num.specs.Sums.{sum_below}
use Rattle.lagrange_bound.specs.Worth.{limit_share}
use Rattle.lagrange_bound.proofs.limit_cost.limit_cost.Given as goal

abbrev pub invariant-loop-c : goal.invariant-loop-c
invariant-loop-c l = record {
  value : l.cost ≡ sum_below l.c (λ d. sum_below l.inst.periods (λ u. limit_share l.inst l.prices d (u + 1)));
  small : unsigned_abs l.cost ≤ l.c * 204_800_000_000_000_000_000_000_000_000_000;
}
