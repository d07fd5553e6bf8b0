use Rattle.std.proofs.Common.{◌≡◌, ◌∙◌, ◌+◌, ◌*◌, ◌<◌, ◌^◌, ℕ, sym, ap, arith, length, to_z}
use Rattle.std.specs.Int.{w128}
use Rattle.fixed_num.specs.Sums.{sum_below}
use Rattle.fixed_num.proofs.SumLemmas.{sum_below-zero, sum_step, sum_step_small}
use Rattle.lagrange_bound.specs.Worth.{limit_share}
use Rattle.lagrange_bound.proofs.limit_cost.limit_cost.Goals as goal

pub loop-c-init : goal.loop-c-init
loop-c-init c = record { value = sym (sum_below-zero _); small = omega arith }

pub loop-c-preserved : goal.loop-c-preserved
loop-c-preserved c =
    let few : (c.loop-c.c + 1) * 204_800_000_000_000_000_000_000_000_000_000 < 2 ^ 127 =
    omega (arith, c.resources-c-end.ensures.few) in
    record {
      value = sum_step _ _ c.loop-c.c 204_800_000_000_000_000_000_000_000_000_000 _ c.loop-c.invariant.value
          c.loop-c.invariant.small c.limit_cost_of-cost.ensures.value c.limit_cost_of-cost.ensures.small few;
      small = sum_step_small (to_z w128 c.loop-c.cost-bits) c.limit_cost_of-cost.result c.loop-c.c
          204_800_000_000_000_000_000_000_000_000_000 c.loop-c.invariant.small c.limit_cost_of-cost.ensures.small few;
    }

pub returns-clause-value : goal.returns-clause-value
returns-clause-value c =
    let e : c.loop-c.c ≡ length c.args.inst.now.resource_names = omega arith in
    c.loop-c.invariant.value
    ∙ ap (λ (n : ℕ). sum_below n
    (λ d. sum_below c.args.inst.now.periods (λ u. limit_share c.args.inst.now c.args.prices.now d (u + 1)))) e
