use Rattle.std.proofs.Common.{◌≡◌, ◌-◌, ◌*◌, ◌≤◌, unsigned_abs}
use Rattle.fixed_num.specs.Sums.{sum_below}
use Rattle.lagrange_bound.specs.Prices.{tail_of}
use Rattle.lagrange_bound.proofs.BaseLemmas.{share_at}
use Rattle.lagrange_bound.proofs.risk_goal.base_on.Given as goal

abbrev pub invariant-loop-t : goal.invariant-loop-t
invariant-loop-t g l = record {
  value : l.base ≡ sum_below (l.t - 1) (share_at l.inst (tail_of l.prices) l.i l.s);
  small : unsigned_abs l.base ≤ (l.t - 1) * 300_000_000_000_000_000_000_000_000;
}
