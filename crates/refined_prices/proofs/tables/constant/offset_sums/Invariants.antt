use Rattle.refined_prices.proofs.TablesOffsetSumLemmas.{AreSumsSoFar}
use Rattle.refined_prices.proofs.tables.constant.offset_sums.Given as goal

abbrev pub invariant-loop-x : goal.invariant-loop-x
invariant-loop-x l = AreSumsSoFar l.inst l.list.offsets l.width l.x-index l.sums.items
