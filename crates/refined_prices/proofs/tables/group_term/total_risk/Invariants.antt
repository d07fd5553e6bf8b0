use Rattle.std.proofs.Common.{◌≡◌, ◌≤◌, ◌*◌, unsigned_abs, take}
use Rattle.fixed_num.specs.Sums.{total}
use Rattle.instance_model.specs.RiskNumbers.{numbers_of}
use Rattle.refined_prices.proofs.tables.group_term.total_risk.Given as goal

abbrev pub invariant-loop-k : goal.invariant-loop-k
invariant-loop-k l = record {
  value : l.sum ≡ total (take l.k (numbers_of l.risks));
  small : unsigned_abs l.sum ≤ l.k * 100_000_000_000_000_000_000;
}
