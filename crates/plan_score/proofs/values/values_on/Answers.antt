use Rattle.std.proofs.Common.{◌∙◌, refl, ap, arith}
use Rattle.instance_model.specs.Values.{risk_total, numerator_of, score_of, roof_of, cost_low_of, cost_high_of}
use Rattle.instance_model.specs.Values.{mean_low_of, mean_high_of, excess_low_of, excess_high_of}
use Rattle.instance_model.proofs.ScoreSizeLemmas.{score_of_small}
use Rattle.plan_score.specs.declared.values.Values.{Values}
use Rattle.plan_score.specs.Values.{values_of}
use Rattle.plan_score.proofs.TotalLemmas.{kept, score_low_is, score_high_is, excess_low_is, excess_high_is}
use Rattle.plan_score.proofs.TotalLemmas.{cost_slack_is, mean_slack_is, no_margin, no_margin_more, values_same}
use Rattle.plan_score.proofs.values.values_on.Goals as goal

pub returns-clause-value : goal.returns-clause-value
unfolding values_of
returns-clause-value g c =
    let i = c.args.inst.now in
    let p = c.args.plan.now in
    let s = c.in_ok-totals in
    let n = c.periods-periods.ensures.value in
    let few = c.periods-periods.ensures.few in
    let sl = score_low_is i (numerator_of i p) s.totals.score s.ensures.score in
    let sh = score_high_is i (numerator_of i p) s.totals.score s.ensures.score in
    let ml = score_low_is i (risk_total i p) s.totals.mean s.ensures.mean in
    let mh = score_high_is i (risk_total i p) s.totals.mean s.ensures.mean in
    let el = excess_low_is i p s.totals.excess s.ensures.excess in
    let eh = excess_high_is i p s.totals.excess s.ensures.excess in
    let cs = cost_slack_is i p s.totals.cost_slack s.ensures.cost_slack in
    let ms = mean_slack_is i p s.totals.mean_slack s.ensures.mean_slack in
    let a = c.shares-cost_low.ensures in
    let b = c.shares-mean_low.ensures in
    let d = c.shares-excess_low.ensures in
    values_same _ _ _ _ _ _ _ _ _ _ _ _ _ _ _ _
    (kept s.totals.score.low (score_of i p) (omega (arith, s.ensures.score.low_small, few, n)) sl)
    (kept s.totals.score.high (roof_of i p) (omega (arith, s.ensures.score.high_small, few, n)) sh)
    (kept c.shares-cost_low.result.0 (cost_low_of i p) a.low_small (a.low ∙ rw (sl, cs, n) refl))
    (kept c.shares-cost_low.result.1 (cost_high_of i p) a.high_small (a.high ∙ rw (sh, cs, n) refl))
    (kept c.shares-mean_low.result.0 (mean_low_of i p) b.low_small (b.low ∙ rw (ml, ms, n) refl))
    (kept c.shares-mean_low.result.1 (mean_high_of i p) b.high_small (b.high ∙ rw (mh, ms, n) refl))
    (kept c.shares-excess_low.result.0 (excess_low_of i p) d.low_small
    (d.low ∙ rw (no_margin s.totals.excess.low, el, n) refl))
    (kept c.shares-excess_low.result.1 (excess_high_of i p) d.high_small
    (d.high ∙ rw (no_margin_more s.totals.excess.high, eh, n) refl))

pub returns-clause-small : goal.returns-clause-small
unfolding values_of
returns-clause-small g c = rw (ap (λ (v : Values). v.score) (returns-clause-value g c))
    (score_of_small c.args.inst.now c.args.plan.now c.fits.ensures)
