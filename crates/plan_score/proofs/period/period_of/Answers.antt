use Rattle.std.proofs.Common.{◌∙◌, arith, ap, length}
use Rattle.std.proofs.lemmas.List.Elements.{All-same}
use Rattle.instance_model.specs.Plans.{IsSmallSum, scenario_sums}
use Rattle.instance_model.proofs.FitLemmas.{scenarios_of_small}
use Rattle.instance_model.proofs.PlanLemmas.{length-scenario_sums, scenario_sums_small}
use Rattle.plan_score.proofs.PeriodLemmas.{IsPeriod-made}
use Rattle.plan_score.proofs.period.period_of.Goals as goal

pub total_of-total-requires-clause-few : goal.total_of-total-requires-clause-few
total_of-total-requires-clause-few g c =
    omega (
      arith,
      ap length c.as_slice-2.ensures.value,
      ap length c.in_ok-read_sums.ensures,
      ap length c.as_slice.ensures.value,
      ap length c.in_ok-soft.ensures.sums,
      length-scenario_sums c.args.inst.now c.args.plan.now c.args.t,
      scenarios_of_small c.args.inst.now c.args.t c.fits.ensures c.requires.from c.requires.to,
    )

pub total_of-total-requires-clause-small : goal.total_of-total-requires-clause-small
total_of-total-requires-clause-small g c =
    All-same IsSmallSum c.as_slice-2.result.now (scenario_sums c.args.inst.now c.args.plan.now c.args.t)
    (c.as_slice-2.ensures.value ∙ c.in_ok-read_sums.ensures ∙ c.as_slice.ensures.value ∙ c.in_ok-soft.ensures.sums)
    (scenario_sums_small c.args.inst.now c.args.plan.now c.args.t c.fits.ensures)

pub sum_at_rank-quantile-requires-clause-to : goal.sum_at_rank-quantile-requires-clause-to
sum_at_rank-quantile-requires-clause-to g c =
    omega (
      arith,
      c.rank.ensures.few,
      ap length c.in_ok-read_sums.ensures,
      ap length c.as_slice.ensures.value,
      ap length c.in_ok-soft.ensures.sums,
      length-scenario_sums c.args.inst.now c.args.plan.now c.args.t,
    )

pub sum_at_rank-quantile-requires-clause-small : goal.sum_at_rank-quantile-requires-clause-small
sum_at_rank-quantile-requires-clause-small g c =
    All-same IsSmallSum c.read_sums.new.values.items (scenario_sums c.args.inst.now c.args.plan.now c.args.t)
    (c.in_ok-read_sums.ensures ∙ c.as_slice.ensures.value ∙ c.in_ok-soft.ensures.sums)
    (scenario_sums_small c.args.inst.now c.args.plan.now c.args.t c.fits.ensures)

pub returns : goal.returns
returns g c =
    IsPeriod-made c.args.inst.now c.args.plan.now c.args.t c.scenarios.result c.rank.result c.alpha.result
    c.in_ok-soft.soft c.read_sums.new.values.items c.as_slice-2.result.now c.total_of-total.result
    c.sum_at_rank-quantile.result c.excess_above-excess.result c.weighted-numerator.result
    c.as_slice-2.ensures.value (c.in_ok-read_sums.ensures ∙ c.as_slice.ensures.value ∙ c.in_ok-soft.ensures.sums)
    c.scenarios.ensures.value c.rank.ensures.value c.alpha.ensures.value c.total_of-total.ensures.value
    c.sum_at_rank-quantile.ensures.value c.excess_above-excess.ensures.value c.weighted-numerator.ensures.value
    c.sum_at_rank-quantile.ensures.small.small c.total_of-total.ensures.small c.excess_above-excess.ensures.small
    c.weighted-numerator.ensures.small c.in_ok-soft.ensures.soft c.in_ok-soft.ensures.few
