use Rattle.std.proofs.Common.{sym, subst}
use Rattle.lagrange_bound.specs.Prices.{IsPriceList}
use Rattle.lagrange_bound.proofs.PriceLemmas.{lo_in_range}
use Rattle.lagrange_bound.proofs.prices.Prices.set_lo.Goals as goal

pub returns-clause-in_range : goal.returns-clause-in_range
returns-clause-in_range c =
    lo_in_range c.args.inst.now _ c.place_in-place.result c.args.v
    (subst (IsPriceList c.args.inst.now) (sym c.self.view_is) c.requires.prices) c.requires.small
