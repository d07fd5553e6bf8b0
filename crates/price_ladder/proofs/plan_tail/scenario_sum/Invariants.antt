use Rattle.std.proofs.Common.{◌≡◌, ◌*◌, ◌≤◌, unsigned_abs, map, Some}
use Rattle.fixed_num.specs.Sums.{sum_below}
use Rattle.instance_model.specs.Plans.{risk_at, start_of}
use Rattle.price_ladder.proofs.plan_tail.scenario_sum.Given as goal

abbrev pub invariant-loop-i : goal.invariant-loop-i
invariant-loop-i g l = record {
  value : l.sum ≡ sum_below l.i (λ i. risk_at l.inst l.t l.k i (start_of (map Some l.starts) i));
  small : unsigned_abs l.sum ≤ l.i * 100_000_000_000_000_000_000;
}
