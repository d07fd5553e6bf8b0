use Rattle.lagrange_bound.specs.Prices.{IsPriceList}
use Rattle.price_ladder.specs.Beside.{IsWhole}
use Rattle.price_ladder.proofs.phase.switch_tails.Given as goal

abbrev pub invariant-loop-t : goal.invariant-loop-t
invariant-loop-t l = record {
  prices : IsPriceList l.inst l.kept.prices;
  kept : IsWhole l.inst l.kept;
}
