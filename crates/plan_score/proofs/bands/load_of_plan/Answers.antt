use Rattle.std.proofs.Common.{◌≡◌, ◌∙◌, sym, ap, arith, ℕ, length, ◌*◌, ◌+◌, ◌<◌, ◌^◌, to_z}
use Rattle.std.specs.Int.{w128}
use Rattle.fixed_num.specs.Sums.{sum_below}
use Rattle.fixed_num.proofs.SumLemmas.{sum_below-zero, sum_step, sum_step_small}
use Rattle.instance_model.specs.Plans.{RunsAreAllowed, load_sum, load_at, start_of}
use Rattle.plan_score.proofs.bands.load_of_plan.Goals as goal

pub loop-i-init : goal.loop-i-init
loop-i-init c = record { value = sym (sum_below-zero _); small = omega arith }

pub load_part-load-requires-clause-allowed : goal.load_part-load-requires-clause-allowed
unfolding RunsAreAllowed
load_part-load-requires-clause-allowed c = c.requires.allowed c.loop-i.i (omega arith)

pub loop-i-preserved : goal.loop-i-preserved
loop-i-preserved c =
    let few : (c.loop-i.i + 1) * 100_000_000_000_000_000_000 < 2 ^ 127 =
    omega (arith, c.interventions-i-end.ensures.few) in
    record {
      value = sum_step _ _ c.loop-i.i 100_000_000_000_000_000_000 _ c.loop-i.invariant.value c.loop-i.invariant.small
          c.load_part-load.ensures.value c.load_part-load.ensures.small few;
      small = sum_step_small (to_z w128 c.loop-i.load-bits) c.load_part-load.result c.loop-i.i
          100_000_000_000_000_000_000 c.loop-i.invariant.small c.load_part-load.ensures.small few;
    }

pub returns-clause-value : goal.returns-clause-value
unfolding load_sum
returns-clause-value c =
    let e : c.loop-i.i ≡ length c.args.inst.now.names = omega arith in
    c.loop-i.invariant.value
    ∙ ap (λ (n : ℕ). sum_below n (λ j. load_at c.args.inst.now c.args.c c.args.t j (start_of c.args.plan.now j))) e
