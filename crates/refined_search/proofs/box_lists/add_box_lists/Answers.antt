use Rattle.std.proofs.Common.{sym, subst, arith}
use Rattle.refined_search.specs.Steps.{MayStand}
use Rattle.refined_search.proofs.ListLemmas.{searched_none, searched_more}
use Rattle.refined_search.proofs.box_lists.add_box_lists.Goals as goal

pub loop-splits-init : goal.loop-splits-init
loop-splits-init c =
    searched_none c.args.inst.now c.args.turns c.args.end c.args.lists.now.items c.requires.lists c.requires.within

pub box_left-requires-clause-lists : goal.box_left-requires-clause-lists
box_left-requires-clause-lists c =
    subst (MayStand c.args.inst.now) (sym c.as_slice.ensures.value) c.loop-splits.invariant.adds.may_stand

pub add_box_list-requires-clause-lists : goal.add_box_list-requires-clause-lists
add_box_list-requires-clause-lists c = c.loop-splits.invariant.adds.may_stand

pub loop-splits-preserved : goal.loop-splits-preserved
loop-splits-preserved c =
    searched_more c.args.inst.now c.args.turns c.args.end c.loop-splits.splits-index c.args.lists.now.items
    c.loop-splits.lists.items c.add_box_list.new.lists.items (omega (arith, c.if-splits-turns.false))
    c.loop-splits.invariant c.in_ok-add_box_list.ensures
