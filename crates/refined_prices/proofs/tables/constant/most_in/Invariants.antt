use Rattle.std.proofs.Common.{◌≡◌, ◌≤◌, ◌*◌, length}
use Rattle.instance_model.specs.Naturals.{count_sum}
use Rattle.refined_prices.specs.Offsets.{offset_of}
use Rattle.refined_prices.specs.Groups.{greatest_below}
use Rattle.refined_prices.proofs.tables.constant.most_in.Given as goal

abbrev pub invariant-loop-g : goal.invariant-loop-g
invariant-loop-g l = record {
  value : l.most ≡ greatest_below l.g
      (λ g. count_sum (length l.inst.names) (λ i. offset_of l.list.offsets l.t i g));
  small : l.most ≤ 1024 * 1_000_000_000;
}
