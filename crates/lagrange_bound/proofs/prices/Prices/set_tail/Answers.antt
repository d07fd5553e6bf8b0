use Rattle.std.proofs.Common.{sym, subst}
use Rattle.lagrange_bound.specs.Prices.{IsPriceList}
use Rattle.lagrange_bound.proofs.PriceLemmas.{tail_in_range}
use Rattle.lagrange_bound.proofs.prices.Prices.set_tail.Goals as goal

pub returns-clause-in_range : goal.returns-clause-in_range
returns-clause-in_range c =
    tail_in_range c.args.inst.now _ c.args.t c.args.tail (subst (IsPriceList c.args.inst.now) (sym c.self.view_is)
    c.requires.prices) c.requires.from c.requires.to c.requires.tail
