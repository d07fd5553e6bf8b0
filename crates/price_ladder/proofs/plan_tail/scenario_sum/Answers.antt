use Rattle.std.proofs.Common.{◌∙◌, ◌+◌, ◌*◌, ◌<◌, ◌≤◌, ◌^◌, sym, ap, arith, to_z, unsigned_abs, ℕ, Option}
use Rattle.std.specs.Int.{w128}
use Rattle.fixed_num.proofs.SumLemmas.{sum_below-zero, sum_step, sum_step_small}
use Rattle.instance_model.specs.Plans.{risk_at}
use Rattle.instance_model.proofs.BoardLemmas.{start_of-starts}
use Rattle.price_ladder.proofs.PlanTailLemmas.{scenario_sum_all}
use Rattle.price_ladder.proofs.plan_tail.scenario_sum.Goals as goal

pub loop-i-init : goal.loop-i-init
loop-i-init g c = record { value = sym (sum_below-zero _); small = omega arith }

pub loop-i-preserved : goal.loop-i-preserved
loop-i-preserved g c =
    let few : (c.loop-i.i + 1) * 100_000_000_000_000_000_000 < 2 ^ 127 =
    omega (arith, c.interventions-i-end.ensures.few) in
    let small : unsigned_abs c.count-sum.result ≤ 100_000_000_000_000_000_000 =
    omega (arith, c.count-sum.ensures.small) in
    let at = start_of-starts c.args.starts.now c.loop-i.i (omega (arith, c.requires.starts.each)) in
    record {
      value = sum_step _ _ c.loop-i.i 100_000_000_000_000_000_000 _ c.loop-i.invariant.value c.loop-i.invariant.small
          (c.count-sum.ensures.value ∙ c.risk_at.ensures
          ∙ ap (λ (o : Option ℕ). risk_at c.args.inst.now c.args.t c.args.k c.loop-i.i o) (sym at)) small few;
      small = sum_step_small (to_z w128 c.loop-i.sum-bits) c.count-sum.result c.loop-i.i 100_000_000_000_000_000_000
          c.loop-i.invariant.small small few;
    }

pub returns-clause-value : goal.returns-clause-value
returns-clause-value g c = scenario_sum_all c.args.inst.now c.args.starts.now c.args.t c.args.k c.loop-i.i _
    (omega arith) c.loop-i.invariant.value
