use Rattle.std.proofs.Common.{◌≡◌, ◌≤◌, ◌+◌, ◌*◌, unsigned_abs}
use Rattle.fixed_num.specs.Sums.{sum_below}
use Rattle.lagrange_bound.specs.Worth.{limit_share}
use Rattle.lagrange_bound.proofs.limit_cost.limit_cost_of.Given as goal

abbrev pub invariant-loop-u : goal.invariant-loop-u
invariant-loop-u l = record {
  value : l.cost ≡ sum_below l.u (λ u. limit_share l.inst l.prices l.c (u + 1));
  small : unsigned_abs l.cost ≤ l.u * 400_000_000_000_000_000_000_000_000_000;
}
