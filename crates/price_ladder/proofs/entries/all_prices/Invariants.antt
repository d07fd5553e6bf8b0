use Rattle.price_ladder.specs.Weights.{price_at}
use Rattle.price_ladder.proofs.KeptLemmas.{AreValuesTo}
use Rattle.price_ladder.proofs.entries.all_prices.Given as goal

abbrev pub invariant-loop-k : goal.invariant-loop-k
invariant-loop-k l = AreValuesTo l.inst (price_at l.inst l.prices) l.k l.entries.items
