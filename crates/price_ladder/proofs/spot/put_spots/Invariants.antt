use Rattle.lagrange_bound.specs.Prices.{IsPriceList}
use Rattle.price_ladder.proofs.spot.put_spots.Given as goal

abbrev pub invariant-loop-k : goal.invariant-loop-k
invariant-loop-k l = IsPriceList l.inst l.prices
