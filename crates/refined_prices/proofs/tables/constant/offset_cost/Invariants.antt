use Rattle.std.proofs.Common.{◌≡◌, ◌≤◌, ◌*◌}
use Rattle.instance_model.specs.Naturals.{count_sum}
use Rattle.refined_prices.proofs.TablesOffsetSumLemmas.{cost_at}
use Rattle.refined_prices.proofs.tables.constant.offset_cost.Given as goal

abbrev pub invariant-loop-u : goal.invariant-loop-u
invariant-loop-u l = record {
  value : l.cost ≡ count_sum l.u (cost_at l.inst l.list.tails l.list.offsets);
  small : l.cost ≤ l.u * 1_024_000_000_000_000_000_000_000_000;
}
