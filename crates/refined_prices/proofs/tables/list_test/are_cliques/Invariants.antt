use Rattle.refined_prices.specs.Cliques.{IsPricedClique, CliqueBefore}
use Rattle.refined_prices.proofs.TablesOrderLemmas.{AreOrdered}
use Rattle.refined_prices.proofs.tables.list_test.are_cliques.Given as goal

abbrev pub invariant-loop-k : goal.invariant-loop-k
invariant-loop-k l = AreOrdered (IsPricedClique l.inst) CliqueBefore l.cliques l.k
