use Rattle.std.proofs.Common.{◌+◌, ◌*◌, ◌<◌, ◌≤◌, ◌^◌, sym, arith, to_z, unsigned_abs}
use Rattle.std.specs.Int.{w128}
use Rattle.fixed_num.proofs.SumLemmas.{sum_below-zero, sum_step, sum_step_small}
use Rattle.price_ladder.specs.Kept.{gap_of}
use Rattle.price_ladder.proofs.ChoiceLemmas.{sum_over_all}
use Rattle.price_ladder.proofs.rebased.gap_sum.Goals as goal

pub loop-i-init : goal.loop-i-init
loop-i-init c = record { value = sym (sum_below-zero _); small = omega arith }

pub loop-i-preserved : goal.loop-i-preserved
loop-i-preserved c =
    let few : (c.loop-i.i + 1) * 2_000_000_000_000_000_000_000_000_000_000 < 2 ^ 127 =
    omega (arith, c.interventions-i-end.ensures.few) in
    let small : unsigned_abs c.gap-sum.result ≤ 2_000_000_000_000_000_000_000_000_000_000 =
    omega (arith, c.gap-sum.ensures.small) in
    record {
      value = sum_step _ _ c.loop-i.i 2_000_000_000_000_000_000_000_000_000_000 _ c.loop-i.invariant.value
          c.loop-i.invariant.small c.gap-sum.ensures.value small few;
      small = sum_step_small (to_z w128 c.loop-i.sum-bits) c.gap-sum.result c.loop-i.i
          2_000_000_000_000_000_000_000_000_000_000 c.loop-i.invariant.small small few;
    }

pub returns-clause-value : goal.returns-clause-value
returns-clause-value c = sum_over_all c.args.inst.now (gap_of c.args.inst.now c.args.prices.now c.args.t
    c.args.bases.now) c.args.starts.now c.loop-i.i _
    (omega arith) c.loop-i.invariant.value
