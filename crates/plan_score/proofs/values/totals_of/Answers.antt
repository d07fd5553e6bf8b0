use Rattle.std.proofs.Common.{◌∙◌, ◌-◌, ◌*◌, ◌≤◌, ◌^◌, ap, arith, pos, ℕ, ℤ, ◌+ℤ◌, ◌-ℤ◌, unsigned_abs}
use Rattle.std.specs.Int.{int_max}
use Rattle.fixed_num.specs.Floors.{floor_of, ceil_of}
use Rattle.fixed_num.proofs.Bits.{by_bits}
use Rattle.instance_model.specs.Naturals.{ceil_div_of}
use Rattle.instance_model.specs.Values.{risk_total, excess_of, numerator_of}
use Rattle.plan_score.specs.Periods.{floor_at, ceil_at, excess_floor_at, excess_ceil_at}
use Rattle.plan_score.proofs.TotalLemmas.{AreSumsTo-none, AreSumsTo-more, IsSlack-none, IsSlack-more, floor_at_is}
use Rattle.plan_score.proofs.TotalLemmas.{ceil_at_is}
use Rattle.plan_score.proofs.values.totals_of.Goals as goal

pub loop-u-init : goal.loop-u-init
loop-u-init g c = record {
  score = AreSumsTo-none _ _;
  mean = AreSumsTo-none _ _;
  excess = AreSumsTo-none _ _;
  cost = IsSlack-none _ _ _;
  mean_slack = IsSlack-none _ _ _;
}

pub loop-u-preserved : goal.loop-u-preserved
loop-u-preserved g c =
    let i = c.args.inst.now in
    let p = c.args.plan.now in
    let u = c.loop-u.u in
    let n = c.scenarios-n.result in
    let en = c.scenarios-n.ensures.value in
    let q = c.in_ok-period in
    let sn : unsigned_abs q.period.numerator ≤ 10 ^ 33 = omega (arith, q.ensures.numerator_small) in
    let st : unsigned_abs q.period.total ≤ 10 ^ 33 = omega (arith, q.ensures.total_small) in
    let se : unsigned_abs q.period.excess ≤ 10 ^ 33 = omega (arith, q.ensures.excess_small) in
    record {
      score = AreSumsTo-more (floor_at i (numerator_of i p)) (ceil_at i (numerator_of i p)) u
          (floor_of (by_bits q.period.numerator) n) (ceil_of (by_bits q.period.numerator) n)
          c.loop-u.score c.add.new.self
          c.loop-u.invariant.score (floor_at_is i (numerator_of i p) u n q.period.numerator en q.ensures.numerator sn)
          (ceil_at_is i (numerator_of i p) u n q.period.numerator en q.ensures.numerator sn) c.add.ensures.low
          c.add.ensures.high c.add.ensures.low_small c.add.ensures.high_small;
      mean = AreSumsTo-more (floor_at i (risk_total i p)) (ceil_at i (risk_total i p)) u
          (floor_of (by_bits q.period.total) n) (ceil_of (by_bits q.period.total) n) c.loop-u.mean
          c.add-in-loop-u.new.self c.loop-u.invariant.mean
          (floor_at_is i (risk_total i p) u n q.period.total en q.ensures.total st)
          (ceil_at_is i (risk_total i p) u n q.period.total en q.ensures.total st) c.add-in-loop-u.ensures.low
          c.add-in-loop-u.ensures.high c.add-in-loop-u.ensures.low_small c.add-in-loop-u.ensures.high_small;
      excess = AreSumsTo-more (excess_floor_at i p) (excess_ceil_at i p) u
          (int_max (pos 0) (floor_of (by_bits q.period.excess) n -ℤ pos q.period.soft))
          (ceil_of (by_bits q.period.excess) n +ℤ pos q.period.soft) c.loop-u.excess c.add_above_zero.new.self
          c.loop-u.invariant.excess
          (ap (λ (x : ℤ). int_max (pos 0) (x -ℤ pos q.period.soft)) (floor_at_is i (excess_of i p) u n q.period.excess
          en q.ensures.excess se)
          ∙ ap (λ (x : ℕ). int_max (pos 0) (floor_at i (excess_of i p) u -ℤ pos x)) q.ensures.soft)
          (ap (λ (x : ℤ). x +ℤ pos q.period.soft) (ceil_at_is i (excess_of i p) u n q.period.excess en q.ensures.excess
          se) ∙ ap (λ (x : ℕ). ceil_at i (excess_of i p) u +ℤ pos x) q.ensures.soft)
          c.add_above_zero.ensures.low c.add_above_zero.ensures.high c.add_above_zero.ensures.low_small
          c.add_above_zero.ensures.high_small;
      cost = IsSlack-more i p (2_000_000 - i.alpha) u c.loop-u.cost_slack c.half-cost_slack.result q.period.soft
          c.loop-u.invariant.cost q.ensures.soft
          (c.half-cost_slack.ensures.value ∙ ap (λ (x : ℕ). ceil_div_of (q.period.soft * (2_000_000 - x))
          2) c.alpha.ensures.value) c.half-cost_slack.ensures.small;
      mean_slack = IsSlack-more i p 1 u c.loop-u.mean_slack c.half-mean_slack.result q.period.soft
          c.loop-u.invariant.mean_slack q.ensures.soft c.half-mean_slack.ensures.value c.half-mean_slack.ensures.small;
    }
