use Rattle.std.proofs.Common.{◌-◌}
use Rattle.instance_model.specs.Values.{risk_total, numerator_of}
use Rattle.plan_score.specs.Periods.{AreSumsTo, IsSlack, floor_at, ceil_at, excess_floor_at, excess_ceil_at}
use Rattle.plan_score.proofs.values.totals_of.Given as goal

abbrev pub invariant-loop-u : goal.invariant-loop-u
invariant-loop-u g l = record {
  score : AreSumsTo (floor_at l.inst (numerator_of l.inst l.plan))
      (ceil_at l.inst (numerator_of l.inst l.plan)) l.u l.score;
  mean : AreSumsTo (floor_at l.inst (risk_total l.inst l.plan)) (ceil_at l.inst (risk_total l.inst l.plan)) l.u l.mean;
  excess : AreSumsTo (excess_floor_at l.inst l.plan) (excess_ceil_at l.inst l.plan) l.u l.excess;
  cost : IsSlack l.inst l.plan (2_000_000 - l.inst.alpha) l.u l.cost_slack;
  mean_slack : IsSlack l.inst l.plan 1 l.u l.mean_slack;
}
