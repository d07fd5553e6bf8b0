use Rattle.refined_prices.specs.Offsets.{IsOffset, OffsetBefore}
use Rattle.refined_prices.proofs.TablesOrderLemmas.{AreOrdered}
use Rattle.refined_prices.proofs.tables.list_test.are_offsets.Given as goal

abbrev pub invariant-loop-k : goal.invariant-loop-k
invariant-loop-k l = AreOrdered (IsOffset l.inst l.tails) OffsetBefore l.offsets l.k
