use Rattle.lagrange_bound.specs.Prices.{IsPriceList}
use Rattle.price_ladder.proofs.ascent.Ascent.put.Given as goal

abbrev pub invariant-loop-c : goal.invariant-loop-c
invariant-loop-c l = IsPriceList l.inst l.prices
