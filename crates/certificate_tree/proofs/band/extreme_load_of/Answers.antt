use Rattle.std.proofs.Common.{◌∙◌, sym, arith, ◌*◌, ◌+◌, ◌<◌, ◌≤◌, ◌^◌, to_z, unsigned_abs}
use Rattle.std.specs.Int.{w128}
use Rattle.fixed_num.proofs.SumLemmas.{sum_below-zero, sum_step, sum_step_small}
use Rattle.certificate_tree.proofs.LoadLemmas.{starts_more, extreme_at}
use Rattle.certificate_tree.proofs.band.extreme_load_of.Goals as goal

pub loop-i-init : goal.loop-i-init
loop-i-init c =
    record { value = sym (sum_below-zero _); small = omega arith; starts = λ j l. absurd (omega (arith, l)) }

pub loop-i-preserved : goal.loop-i-preserved
loop-i-preserved c =
    let few : (c.loop-i.i + 1) * 100_000_000_000_000_000_000 < 2 ^ 127 =
    omega (arith, c.interventions-i-end.ensures.few) in
    let w = extreme_at c.args.inst.now c.args.spans.now c.args.c c.args.t c.args.side c.loop-i.i c.span_at.result
    c.extreme_load_in.result c.in-Some.load c.span_at.ensures.value c.extreme_load_in.ensures c.in-Some.is in
    let small : unsigned_abs c.count-sum.result ≤ 100_000_000_000_000_000_000 =
    omega (arith, c.count-sum.ensures.small) in
    record {
      value = sum_step _ _ c.loop-i.i 100_000_000_000_000_000_000 _ c.loop-i.invariant.value c.loop-i.invariant.small
          (c.count-sum.ensures.value ∙ w.1) small few;
      small = sum_step_small (to_z w128 c.loop-i.sum-bits) c.count-sum.result c.loop-i.i 100_000_000_000_000_000_000
          c.loop-i.invariant.small small few;
      starts = starts_more c.args.inst.now c.args.spans.now c.loop-i.i c.loop-i.invariant.starts w.0;
    }
