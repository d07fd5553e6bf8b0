use Rattle.refined_prices.proofs.TablesOffsetSumLemmas.{IsTotalSoFar}
use Rattle.refined_prices.proofs.tables.constant.clique_total.Given as goal

abbrev pub invariant-loop-x : goal.invariant-loop-x
invariant-loop-x l = IsTotalSoFar l.list.cliques l.x-index l.sum
