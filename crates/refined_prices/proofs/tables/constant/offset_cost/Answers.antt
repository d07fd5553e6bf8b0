use Rattle.std.proofs.Common.{◌∙◌, ◌+◌, ◌-◌, ◌*◌, ℕ, ap, arith, sym}
use Rattle.std.proofs.lemmas.Nat.{mul-le}
use Rattle.instance_model.proofs.EntryLemmas.{count_sum-zero, count_sum_more}
use Rattle.instance_model.specs.Naturals.{count_sum}
use Rattle.refined_prices.proofs.TablesOffsetSumLemmas.{cost_at, cost_is}
use Rattle.refined_prices.proofs.tables.constant.offset_cost.Goals as goal

pub loop-u-init : goal.loop-u-init
loop-u-init c = record {
  value = sym (count_sum-zero (cost_at c.args.inst.now c.args.list.now.tails c.args.list.now.offsets));
  small = omega arith;
}

pub loop-u-preserved : goal.loop-u-preserved
loop-u-preserved c =
    let part = mul-le ((1_000_000 - c.alpha.result) * 1_000_000_000) c.most_in.result 1_000_000_000_000_000
    1_024_000_000_000 (omega arith) c.most_in.ensures.small in
    record {
      value = ap (λ (n : ℕ). n + (1_000_000 - c.alpha.result) * 1_000_000_000 * c.most_in.result)
          c.loop-u.invariant.value
          ∙ ap (λ (a : ℕ). count_sum c.loop-u.u (cost_at c.args.inst.now c.args.list.now.tails c.args.list.now.offsets)
          + (1_000_000 - a) * 1_000_000_000 * c.most_in.result) c.alpha.ensures.value
          ∙ ap (λ (m : ℕ). count_sum c.loop-u.u (cost_at c.args.inst.now c.args.list.now.tails c.args.list.now.offsets)
          + (1_000_000 - c.args.inst.now.alpha) * 1_000_000_000 * m) c.most_in.ensures.value
          ∙ sym (count_sum_more c.loop-u.u
          (cost_at c.args.inst.now c.args.list.now.tails c.args.list.now.offsets));
      small = omega (arith, part, c.loop-u.invariant.small);
    }

pub returns-clause-value : goal.returns-clause-value
returns-clause-value c = cost_is c.args.inst.now c.args.list.now.tails c.args.list.now.offsets c.loop-u.u
    c.loop-u.cost (omega arith) c.loop-u.invariant.value
