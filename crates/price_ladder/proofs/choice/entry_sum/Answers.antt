use Rattle.std.proofs.Common.{◌+◌, ◌*◌, ◌<◌, ◌≤◌, ◌^◌, sym, subst, arith, ℤ, to_z, unsigned_abs, get_or}
use Rattle.std.specs.Int.{w128}
use Rattle.fixed_num.proofs.SumLemmas.{sum_below-zero, sum_step, sum_step_small}
use Rattle.price_ladder.specs.Kept.{kept_at}
use Rattle.price_ladder.proofs.ChoiceLemmas.{sum_over_all}
use Rattle.price_ladder.proofs.choice.entry_sum.Goals as goal

pub loop-i-init : goal.loop-i-init
loop-i-init c = record { value = sym (sum_below-zero _); small = omega arith }

pub loop-i-preserved : goal.loop-i-preserved
loop-i-preserved c =
    let few : (c.loop-i.i + 1) * 3_000_000_000_000_000_000_000_000_000_000_000 < 2 ^ 127 =
    omega (arith, c.interventions-i-end.ensures.few) in
    let small : unsigned_abs c.entry-sum.result ≤ 3_000_000_000_000_000_000_000_000_000_000_000 =
    omega (
      arith,
      subst (λ (z : ℤ). unsigned_abs z < 3 * 10 ^ 33) (sym c.entry-sum.ensures) (c.requires.entries.at c.loop-i.i
          (get_or c.args.starts.now c.loop-i.i 0) (omega arith)
          (c.requires.starts.allowed c.loop-i.i (omega (arith, c.requires.starts.each)))),
    ) in
    record {
      value = sum_step _ _ c.loop-i.i 3_000_000_000_000_000_000_000_000_000_000_000 _ c.loop-i.invariant.value
          c.loop-i.invariant.small c.entry-sum.ensures small few;
      small = sum_step_small (to_z w128 c.loop-i.sum-bits) c.entry-sum.result c.loop-i.i
          3_000_000_000_000_000_000_000_000_000_000_000 c.loop-i.invariant.small small few;
    }

pub returns-clause-value : goal.returns-clause-value
returns-clause-value c = sum_over_all c.args.inst.now (kept_at c.args.inst.now c.args.entries.now) c.args.starts.now
    c.loop-i.i _
    (omega arith) c.loop-i.invariant.value
