use Rattle.std.proofs.Common.{◌≡◌, ◌∙◌, ◌+◌, ◌*◌, ◌<◌, ◌^◌, ℕ, sym, ap, arith, to_z}
use Rattle.std.specs.Int.{w128}
use Rattle.fixed_num.specs.Sums.{sum_below}
use Rattle.fixed_num.proofs.SumLemmas.{sum_below-zero, sum_step, sum_step_small}
use Rattle.lagrange_bound.specs.Worth.{limit_share}
use Rattle.lagrange_bound.proofs.limit_cost.limit_cost_of.Goals as goal

pub loop-u-init : goal.loop-u-init
loop-u-init c = record { value = sym (sum_below-zero _); small = omega arith }

pub loop-u-preserved : goal.loop-u-preserved
loop-u-preserved c =
    let few : (c.loop-u.u + 1) * 400_000_000_000_000_000_000_000_000_000 < 2 ^ 127 =
    omega (arith, c.periods-u-end.ensures.few) in
    record {
      value = sum_step _ _ c.loop-u.u 400_000_000_000_000_000_000_000_000_000 _ c.loop-u.invariant.value
          c.loop-u.invariant.small c.limit_cost_in-cost.ensures.value c.limit_cost_in-cost.ensures.small few;
      small = sum_step_small (to_z w128 c.loop-u.cost-bits) c.limit_cost_in-cost.result c.loop-u.u
          400_000_000_000_000_000_000_000_000_000 c.loop-u.invariant.small c.limit_cost_in-cost.ensures.small few;
    }

pub returns-clause-value : goal.returns-clause-value
returns-clause-value c =
    let e : c.loop-u.u ≡ c.args.inst.now.periods = omega arith in
    c.loop-u.invariant.value
    ∙ ap (λ (n : ℕ). sum_below n (λ u. limit_share c.args.inst.now c.args.prices.now c.args.c (u + 1))) e
