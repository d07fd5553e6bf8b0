use Rattle.std.proofs.Common.{◌∙◌, ◌+◌, ◌*◌, ◌^◌, ◌<◌, ◌≤◌, sym, arith, to_z, unsigned_abs}
use Rattle.std.specs.Int.{w128}
use Rattle.fixed_num.proofs.SumLemmas.{sum_below-zero, sum_step, sum_step_small}
use Rattle.lagrange_bound.proofs.term.sum_of.Goals as goal

pub loop-k-init : goal.loop-k-init
loop-k-init g c = record { value = sym (sum_below-zero _); small = omega arith }

pub loop-k-preserved : goal.loop-k-preserved
loop-k-preserved g c =
    let few : (c.loop-k.k + 1) * 100_000_000_000_000_000_000 < 2 ^ 127 = omega (arith, c.scenarios-k-end.ensures.few) in
    let small : unsigned_abs c.count-sum.result ≤ 100_000_000_000_000_000_000 =
    omega (arith, c.count-sum.ensures.small) in
    record {
      value = sum_step _ _ c.loop-k.k 100_000_000_000_000_000_000 _ c.loop-k.invariant.value c.loop-k.invariant.small
          (c.count-sum.ensures.value ∙ c.risk_cell.ensures.value) small few;
      small = sum_step_small (to_z w128 c.loop-k.sum-bits) c.count-sum.result c.loop-k.k 100_000_000_000_000_000_000
          c.loop-k.invariant.small small few;
    }
