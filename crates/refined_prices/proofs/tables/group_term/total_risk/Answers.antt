use Rattle.std.proofs.Common.{◌∙◌, ◌+◌, ◌*◌, ◌<◌, ◌^◌, ◌+ℤ◌, sym, ap, arith, ℤ, take, pos, to_z}
use Rattle.fixed_num.specs.Sums.{total}
use Rattle.std.specs.Int.{w128}
use Rattle.fixed_num.proofs.SumLemmas.{total-none, total_more, added, sum_step_small}
use Rattle.instance_model.specs.RiskNumbers.{numbers_of}
use Rattle.refined_prices.proofs.tables.group_term.total_risk.Goals as goal

pub loop-k-init : goal.loop-k-init
loop-k-init c = record { value = sym total-none; small = omega arith }

pub loop-k-preserved : goal.loop-k-preserved
loop-k-preserved c =
    let s = to_z w128 c.loop-k.sum-bits in
    let x = c.count-sum.result in
    let few : (c.loop-k.k + 1) * 100_000_000_000_000_000_000 < 2 ^ 127 = omega (arith, c.requires) in
    record {
      value = added s x (c.loop-k.k * 100_000_000_000_000_000_000) 100_000_000_000_000_000_000
          c.loop-k.invariant.small (omega (arith, c.count-sum.ensures.small)) (omega (arith, few))
          ∙ ap (λ (y : ℤ). y +ℤ x) c.loop-k.invariant.value
          ∙ ap (λ (y : ℤ). total (take c.loop-k.k (numbers_of c.args.risks)) +ℤ y)
          (c.count-sum.ensures.value ∙ c.at.ensures)
          ∙ sym (total_more (numbers_of c.args.risks) c.loop-k.k (pos 0) (omega arith));
      small = sum_step_small s x c.loop-k.k 100_000_000_000_000_000_000 c.loop-k.invariant.small
          (omega (arith, c.count-sum.ensures.small)) few;
    }
