use Rattle.std.proofs.Common.{ℕ, ◌<◌, get_or, Option}
use Rattle.refined_prices.specs.declared.group_tail.GroupTail.{GroupTail}
use Rattle.refined_check.specs.certificate.Orders.{AreGroupsInOrder}
use Rattle.refined_search.proofs.order.are_tails_in_order.Given as goal

abbrev pub invariant-loop-tail : goal.invariant-loop-tail
invariant-loop-tail l =
    (k : ℕ) (d : Option GroupTail) → k < l.tail-index → AreGroupsInOrder (get_or l.tails k d)
