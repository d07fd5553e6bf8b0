use Rattle.std.proofs.Common.{◌≡◌, ◌-◌, ◌*◌, ◌≤◌, unsigned_abs}
use Rattle.fixed_num.specs.Sums.{sum_below}
use Rattle.refined_prices.proofs.TablesRowLemmas.{group_share}
use Rattle.refined_prices.proofs.tables.rows.group_base.Given as goal

abbrev pub invariant-loop-t : goal.invariant-loop-t
invariant-loop-t g l = record {
  value : l.base ≡ sum_below (l.t - 1) (group_share l.inst l.list.tails l.list.offsets l.i l.s);
  small : unsigned_abs l.base ≤ (l.t - 1) * 301_000_000_000_000_000_000_000_000;
}
