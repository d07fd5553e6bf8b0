use Rattle.std.proofs.Common.{◌≡◌, ◌+◌, ◌*◌, ◌≤◌, unsigned_abs}
use Rattle.fixed_num.specs.Sums.{sum_below}
use Rattle.instance_model.specs.Tables.{risk_of}
use Rattle.lagrange_bound.proofs.term.sum_of.Given as goal

abbrev pub invariant-loop-k : goal.invariant-loop-k
invariant-loop-k g l = record {
  value : l.sum ≡ sum_below l.k (λ k. risk_of l.inst l.i l.s l.t (k + 1));
  small : unsigned_abs l.sum ≤ l.k * 100_000_000_000_000_000_000;
}
