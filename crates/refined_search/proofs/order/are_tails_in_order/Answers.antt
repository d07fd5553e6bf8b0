use Rattle.std.proofs.Common.{refl, arith}
use Rattle.refined_check.specs.certificate.Orders.{AreGroupsInOrder}
use Rattle.refined_search.proofs.OrderLemmas.{each_more, each_all}
use Rattle.refined_search.proofs.order.are_tails_in_order.Goals as goal

pub loop-tail-preserved : goal.loop-tail-preserved
loop-tail-preserved c =
    each_more AreGroupsInOrder c.args.tails.now c.loop-tail.tail-index c.tail-item.result c.loop-tail-test.true
    c.tail-item.is (c.is_tail_in_order.ensures.0 c.if-not-is_tail_in_order.false) c.loop-tail.invariant

pub returns : goal.returns
returns c = (
  λ _. each_all AreGroupsInOrder c.args.tails.now c.loop-tail.tail-index (omega arith) c.loop-tail.invariant,
  λ _. refl,
)
