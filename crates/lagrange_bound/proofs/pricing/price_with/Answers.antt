use Rattle.lagrange_bound.proofs.PricingLemmas.{price_is}
use Rattle.lagrange_bound.proofs.pricing.price_with.Goals as goal

pub returns-clause-value : goal.returns-clause-value
returns-clause-value g c =
    price_is (g.G.Goal.base_gives c.args.goal.now c.args.inst.now c.args.prices.now) c.args.inst.now c.args.prices.now
    c.args.i c.args.s c.base-base.result c.band_cost.result c.args.ex c.base-base.ensures.value
    c.band_cost.ensures.value c.requires.ex c.base-base.ensures.small c.band_cost.ensures.small c.requires.few
