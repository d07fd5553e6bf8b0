use Rattle.std.proofs.Common.{◌≡◌, ◌≤◌, ◌*◌, unsigned_abs, take}
use Rattle.fixed_num.specs.Sums.{total}
use Rattle.instance_model.specs.RiskNumbers.{numbers_of}
use Rattle.scenario_rows.proofs.shift.risk_total.Given as goal

abbrev pub invariant-loop-k : goal.invariant-loop-k
invariant-loop-k l = record {
  value : l.total ≡ total (take l.k (numbers_of l.risks));
  small : unsigned_abs l.total ≤ l.k * 100_000_000_000_000_000_000;
}
