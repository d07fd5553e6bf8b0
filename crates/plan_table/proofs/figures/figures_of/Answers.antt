use Rattle.std.proofs.Common.{◌≡◌, ◌∙◌, ap, arith, length}
use Rattle.std.proofs.lemmas.List.Elements.{All-same}
use Rattle.fixed_num.specs.Sums.{total as sum_of}
use Rattle.fixed_num.proofs.SignedLemmas.{back_from_abs}
use Rattle.instance_model.specs.Tables.{scenarios_of}
use Rattle.instance_model.specs.Plans.{IsSmallSum, scenario_sums}
use Rattle.instance_model.specs.Values.{risk_total, excess_of}
use Rattle.instance_model.proofs.FitLemmas.{scenarios_of_small}
use Rattle.instance_model.proofs.PlanLemmas.{length-scenario_sums, scenario_sums_small}
use Rattle.plan_table.proofs.FigureLemmas.{ranked_same, mean_low_is, mean_high_is, excess_is, excess_low_is}
use Rattle.plan_table.proofs.FigureLemmas.{excess_high_is}
use Rattle.plan_table.proofs.figures.figures_of.Goals as goal

pub total_of-total-requires-clause-few : goal.total_of-total-requires-clause-few
total_of-total-requires-clause-few g c =
    omega (
      arith,
      ap length c.as_slice.ensures.value,
      ap length c.in_ok-sums.ensures.values,
      length-scenario_sums c.args.inst.now c.args.plan.now c.args.t,
      scenarios_of_small c.args.inst.now c.args.t c.fits.ensures c.requires.from c.requires.to,
    )

pub total_of-total-requires-clause-small : goal.total_of-total-requires-clause-small
total_of-total-requires-clause-small g c =
    All-same IsSmallSum c.as_slice.result.now (scenario_sums c.args.inst.now c.args.plan.now c.args.t)
    (c.as_slice.ensures.value ∙ c.in_ok-sums.ensures.values)
    (scenario_sums_small c.args.inst.now c.args.plan.now c.args.t c.fits.ensures)

pub ranked_of-ranked-requires-clause-to : goal.ranked_of-ranked-requires-clause-to
ranked_of-ranked-requires-clause-to g c =
    omega (
      arith,
      c.rank.ensures.few,
      ap length c.in_ok-sums.ensures.values,
      length-scenario_sums c.args.inst.now c.args.plan.now c.args.t,
    )

pub ranked_of-ranked-requires-clause-small : goal.ranked_of-ranked-requires-clause-small
ranked_of-ranked-requires-clause-small g c =
    All-same IsSmallSum c.in_ok-sums.sums.values.items (scenario_sums c.args.inst.now c.args.plan.now c.args.t)
    c.in_ok-sums.ensures.values (scenario_sums_small c.args.inst.now c.args.plan.now c.args.t c.fits.ensures)

pub excess_above-excess-requires-clause-quantile : goal.excess_above-excess-requires-clause-quantile
excess_above-excess-requires-clause-quantile g c =
    let s = c.ranked_of-ranked.ensures.quantile_small in
    rw (back_from_abs c.ranked_of-ranked.result.quantile (omega (arith, s.small))) s

pub returns : goal.returns
returns g c =
    let i = c.args.inst.now in
    let p = c.args.plan.now in
    let t = c.args.t in
    let s = c.in_ok-sums.ensures in
    let n = c.scenarios-n.ensures.value in
    let total = c.total_of-total.result in
    let total_small = c.total_of-total.ensures.small in
    let total_is : total ≡ risk_total i p t = c.total_of-total.ensures.value
    ∙ ap sum_of (c.as_slice.ensures.value ∙ s.values) in
    let r = c.ranked_of-ranked.ensures in
    let count : length c.in_ok-sums.sums.values.items ≡ scenarios_of i t = ap length s.values
    ∙ length-scenario_sums i p t in
    let ranked = ranked_same (scenario_sums i p t) c.ranked_of-ranked.result s.values count c.rank.ensures.value r in
    let excess = c.excess_above-excess.result in
    let excess_small = c.excess_above-excess.ensures.small in
    let e : excess ≡ excess_of i p t =
    excess_is i p t c.scenarios-n.result c.ranked_of-ranked.result.quantile total excess n ranked.quantile.same
    ranked.quantile_small total_is total_small c.excess_above-excess.ensures.value in
    record {
      ranked = ranked;
      mean_low = mean_low_is i p t c.scenarios-n.result c.in_ok-sums.sums.soft c.half-margin.result total
          c.floor_and_less.result total_is total_small n s.soft c.half-margin.ensures.value c.floor_and_less.ensures;
      mean_high = mean_high_is i p t c.scenarios-n.result c.in_ok-sums.sums.soft c.half-margin.result total
          c.ceil_and_more.result total_is total_small n s.soft c.half-margin.ensures.value
          c.ceil_and_more.ensures.value c.ceil_and_more.ensures.small;
      excess_low = excess_low_is i p t c.scenarios-n.result c.in_ok-sums.sums.soft excess c.floor_above_zero.result e
          excess_small n s.soft c.floor_above_zero.ensures.value c.floor_above_zero.ensures.small;
      excess_high = excess_high_is i p t c.scenarios-n.result c.in_ok-sums.sums.soft excess c.ceil_and_more-2.result e
          excess_small n s.soft c.ceil_and_more-2.ensures.value c.ceil_and_more-2.ensures.small;
    }
