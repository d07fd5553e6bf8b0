use Rattle.std.proofs.Common.{◌≡◌, ◌≤◌, ◌+◌, ◌*◌, unsigned_abs}
use Rattle.fixed_num.specs.Sums.{sum_below}
use Rattle.lagrange_bound.specs.Worth.{band_share}
use Rattle.lagrange_bound.proofs.band_cost.band_cost.Given as goal

abbrev pub invariant-loop-c : goal.invariant-loop-c
invariant-loop-c l = record {
  value : l.cost ≡ sum_below l.c (λ d. sum_below l.inst.periods (λ u. band_share l.inst l.prices l.i l.s d (u + 1)));
  small : unsigned_abs l.cost ≤ l.c * 51_200_000_000_000_000_000_000_000_000_000;
}
