use Rattle.lagrange_bound.specs.Prices.{IsPriceList}
use Rattle.group_ladder.proofs.list.put_bands.Given as goal

abbrev pub invariant-loop-t : goal.invariant-loop-t
invariant-loop-t l = IsPriceList l.inst l.prices
