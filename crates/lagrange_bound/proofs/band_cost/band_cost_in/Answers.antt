use Rattle.std.proofs.Common.{◌∙◌}
use Rattle.lagrange_bound.proofs.PricingLemmas.{IsPriced-from, band_share_none, band_share_is}
use Rattle.lagrange_bound.proofs.band_cost.band_cost_in.Goals as goal

pub returns-then-up-lo-clause-value : goal.returns-then-up-lo-clause-value
returns-then-up-lo-clause-value c =
    band_share_none c.args.inst.now c.args.prices.now c.args.i c.args.s c.args.c c.args.t c.up-up.result c.lo-lo.result
    c.up-up.ensures.value c.lo-lo.ensures.value c.if-up-lo.true

pub overflow_mul-result : goal.overflow_mul-result
overflow_mul-result c = (IsPriced-from c.up-up.result c.lo-lo.result c.count.result c.up-up.ensures.small
    c.lo-lo.ensures.small c.count.ensures.small).fits

pub returns-clause-value : goal.returns-clause-value
returns-clause-value c =
    (IsPriced-from c.up-up.result c.lo-lo.result c.count.result c.up-up.ensures.small c.lo-lo.ensures.small
    c.count.ensures.small).value
    ∙ band_share_is c.args.inst.now c.args.prices.now c.args.i c.args.s c.args.c c.args.t c.up-up.result
    c.lo-lo.result c.count.result c.up-up.ensures.value c.lo-lo.ensures.value c.requires.running
    (c.count.ensures.value ∙ c.load.ensures)

pub returns-clause-small : goal.returns-clause-small
returns-clause-small c = (IsPriced-from c.up-up.result c.lo-lo.result c.count.result c.up-up.ensures.small
    c.lo-lo.ensures.small c.count.ensures.small).small
