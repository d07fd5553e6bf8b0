use Rattle.std.proofs.Common.{◌≡◌, ◌≤◌, ◌*◌, unsigned_abs, take}
use Rattle.fixed_num.specs.Sums.{total}
use Rattle.scenario_rows.proofs.sum_row.total_of.Given as goal

abbrev pub invariant-loop-sum : goal.invariant-loop-sum
invariant-loop-sum g l = record {
  value : l.total ≡ total (take l.sum-index l.sums);
  small : unsigned_abs l.total ≤ l.sum-index * 102_400_000_000_000_000_000_000;
  forward : l.fn.steps ≤ l.steps;
}
