use Rattle.std.proofs.Common.{◌≡◌, ◌≤◌, ◌*◌, unsigned_abs, take}
use Rattle.fixed_num.specs.Sums.{total}
use Rattle.plan_score.proofs.period.total_of.Given as goal

abbrev pub invariant-loop-one : goal.invariant-loop-one
invariant-loop-one l = record {
  value : l.sum ≡ total (take l.one-index l.sums);
  small : unsigned_abs l.sum ≤ l.one-index * 102_400_000_000_000_000_000_000;
}
