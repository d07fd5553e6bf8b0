use Rattle.lagrange_bound.specs.Prices.{IsPriceList}
use Rattle.group_ladder.proofs.list.limit_prices.Given as goal

abbrev pub invariant-loop-c : goal.invariant-loop-c
invariant-loop-c l = IsPriceList l.inst l.prices
