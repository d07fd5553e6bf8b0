use Rattle.std.proofs.Common.{subst, arith, List}
use Rattle.std.specs.Prelude.{option_map}
use Rattle.refined_prices.specs.RefinedLists.{RefinedList}
use Rattle.refined_search.specs.Lists.{AreListsFor}
use Rattle.refined_search.proofs.LentLemmas.{lent_stand}
use Rattle.refined_search.proofs.ListLemmas.{lists_are}
use Rattle.refined_search.proofs.lists.lists_for.Goals as goal

pub add_ladder_list-requires-clause-incumbent : goal.add_ladder_list-requires-clause-incumbent
add_ladder_list-requires-clause-incumbent c = c.requires.incumbent

pub add_ladder_list-requires-clause-lists : goal.add_ladder_list-requires-clause-lists
add_ladder_list-requires-clause-lists c =
    lent_stand c.args.inst.now c.args.cert c.in_ok-lists.lists.items c.requires.cert c.in_ok-lists.ensures

pub returns : goal.returns
returns c =
    let inst = c.args.inst.now in
    let incumbent = option_map (λ given. given.now) c.args.incumbent in
    let old = c.in_ok-lists.lists.items in
    let ladder = c.add_ladder_list.new.lists.items in
    let groups = c.add_group_list.new.lists.items in
    let boxes = c.add_box_lists.new.lists.items in
    subst (λ (ls : List RefinedList). AreListsFor inst incumbent ls c.args.turns c.args.most boxes)
    c.in_ok-lists.ensures
    (lists_are inst incumbent c.args.turns c.args.most _ old ladder groups boxes (omega arith)
    c.in_ok-add_ladder_list.ensures c.in_ok-add_group_list.ensures c.in_ok-add_box_lists.ensures)
