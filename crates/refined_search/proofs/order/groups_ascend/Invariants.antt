use Rattle.refined_check.specs.certificate.Orders.{GroupBefore}
use Rattle.refined_prices.proofs.TablesOrderLemmas.{AreOrdered}
use Rattle.refined_search.proofs.OrderLemmas.{IsAny}
use Rattle.refined_search.proofs.order.groups_ascend.Given as goal

abbrev pub invariant-loop-k : goal.invariant-loop-k
invariant-loop-k l = AreOrdered IsAny GroupBefore l.groups l.k
