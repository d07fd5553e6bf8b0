use Rattle.plan_score.proofs.BandLemmas.{AreLoadAndLimits, band_over, band_under, band_kept}
use Rattle.plan_score.proofs.bands.band_rule.Goals as goal

pub returns-then-load-upper : goal.returns-then-load-upper
returns-then-load-upper c =
    let read : AreLoadAndLimits c.args.inst.now c.args.plan.now c.args.c c.args.t c.load_of_plan-load.result
    c.upper-upper.result c.lower-lower.result =
    record {
      load_is = c.load_of_plan-load.ensures.value;
      upper_is = c.upper-upper.ensures.value;
      lower_is = c.lower-lower.ensures.value;
      load_small = c.load_of_plan-load.ensures.small;
      upper_small = c.upper-upper.ensures.small;
      lower_small = c.lower-lower.ensures.small;
    } in
    band_over c.args.inst.now c.args.plan.now c.args.c c.args.t c.load_of_plan-load.result c.upper-upper.result
    c.lower-lower.result read c.if-load-upper.true

pub returns-then-load-lower : goal.returns-then-load-lower
returns-then-load-lower c =
    let read : AreLoadAndLimits c.args.inst.now c.args.plan.now c.args.c c.args.t c.load_of_plan-load.result
    c.upper-upper.result c.lower-lower.result =
    record {
      load_is = c.load_of_plan-load.ensures.value;
      upper_is = c.upper-upper.ensures.value;
      lower_is = c.lower-lower.ensures.value;
      load_small = c.load_of_plan-load.ensures.small;
      upper_small = c.upper-upper.ensures.small;
      lower_small = c.lower-lower.ensures.small;
    } in
    band_under c.args.inst.now c.args.plan.now c.args.c c.args.t c.load_of_plan-load.result c.upper-upper.result
    c.lower-lower.result read c.if-load-upper.false c.if-load-lower.true

pub returns : goal.returns
returns c =
    let read : AreLoadAndLimits c.args.inst.now c.args.plan.now c.args.c c.args.t c.load_of_plan-load.result
    c.upper-upper.result c.lower-lower.result =
    record {
      load_is = c.load_of_plan-load.ensures.value;
      upper_is = c.upper-upper.ensures.value;
      lower_is = c.lower-lower.ensures.value;
      load_small = c.load_of_plan-load.ensures.small;
      upper_small = c.upper-upper.ensures.small;
      lower_small = c.lower-lower.ensures.small;
    } in
    band_kept c.args.inst.now c.args.plan.now c.args.c c.args.t c.load_of_plan-load.result c.upper-upper.result
    c.lower-lower.result read c.if-load-upper.false c.if-load-lower.false
