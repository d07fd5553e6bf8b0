use Rattle.lagrange_bound.specs.Prices.{IsPriceList}
use Rattle.price_ladder.proofs.ascent.put_bands_of.Given as goal

abbrev pub invariant-loop-t : goal.invariant-loop-t
invariant-loop-t l = IsPriceList l.inst l.prices
