use Rattle.refined_prices.proofs.TablesOffsetRowLemmas.{AreWithinSoFar}
use Rattle.refined_prices.proofs.tables.width.width_of.Given as goal

abbrev pub invariant-loop-u : goal.invariant-loop-u
invariant-loop-u l = AreWithinSoFar l.list.tails l.u l.width
