use Rattle.std.proofs.Common.{◌∙◌, sym, ap, arith, pos, ◌+◌, ◌*◌, ◌+ℤ◌, ◌<◌, ℤ, get_or, to_z, ◌^◌}
use Rattle.std.specs.Int.{w128}
use Rattle.std.proofs.lemmas.List.Elements.{All-get_or}
use Rattle.fixed_num.proofs.SumLemmas.{total-none, total_more, added, sum_step_small}
use Rattle.instance_model.specs.Plans.{IsSmallSum}
use Rattle.plan_score.proofs.period.total_of.Goals as goal

pub loop-one-init : goal.loop-one-init
loop-one-init c = record { value = sym total-none; small = omega arith }

pub loop-one-preserved : goal.loop-one-preserved
loop-one-preserved c =
    let s = to_z w128 c.loop-one.sum-bits in
    let x = get_or c.args.sums.now c.loop-one.one-index (pos 0) in
    let one = All-get_or IsSmallSum c.args.sums.now c.loop-one.one-index (pos 0) (omega arith) c.requires.small in
    let few : (c.loop-one.one-index + 1) * 102_400_000_000_000_000_000_000 < 2 ^ 127 = omega arith in
    record {
      value = added s x (c.loop-one.one-index * 102_400_000_000_000_000_000_000) 102_400_000_000_000_000_000_000
          c.loop-one.invariant.small one.small (omega (arith, few)) ∙ ap (λ (y : ℤ). y +ℤ x) c.loop-one.invariant.value
          ∙ sym (total_more c.args.sums.now c.loop-one.one-index (pos 0) (omega arith));
      small = sum_step_small s x c.loop-one.one-index 102_400_000_000_000_000_000_000
          c.loop-one.invariant.small one.small few;
    }
