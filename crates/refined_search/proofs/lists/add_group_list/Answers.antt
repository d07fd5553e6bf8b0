use Rattle.std.proofs.Common.{arith}
use Rattle.refined_search.proofs.ListLemmas.{stays_at_most_one, adds_at_most_one}
use Rattle.refined_search.proofs.lists.add_group_list.Goals as goal

pub returns-then-not-is_in_order : goal.returns-then-not-is_in_order
returns-then-not-is_in_order c =
    stays_at_most_one c.args.inst.now c.args.end c.args.lists.now.items c.requires.lists c.requires.within

pub returns : goal.returns
returns c =
    adds_at_most_one c.args.inst.now c.in_ok-list.list c.args.end c.args.lists.now.items c.add_list.new.lists.items
    c.requires.lists c.in_ok-list.ensures.in_range (c.is_in_order.ensures.0 c.if-not-is_in_order.false) c.requires.few
    (omega arith) c.in_ok-add_list.ensures
