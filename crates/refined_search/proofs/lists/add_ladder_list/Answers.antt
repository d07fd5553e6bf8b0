use Rattle.std.proofs.Common.{subst, arith}
use Rattle.std.specs.Prelude.{option_map}
use Rattle.refined_search.specs.Steps.{FindsPlan}
use Rattle.refined_search.proofs.ListLemmas.{no_room, none_raised, raised_for}
use Rattle.refined_search.proofs.lists.add_ladder_list.Goals as goal

pub returns-then-len-end : goal.returns-then-len-end
returns-then-len-end c =
    no_room c.args.inst.now (option_map (λ given. given.now) c.args.incumbent) c.args.end c.args.lists.now.items
    c.requires.lists c.requires.within (omega arith)

pub returns-in-None : goal.returns-in-None
returns-in-None c =
    let inst = c.args.inst.now in
    let incumbent = option_map (λ given. given.now) c.args.incumbent in
    none_raised inst incumbent c.args.end c.args.lists.now.items c.requires.lists c.requires.within
    (subst (FindsPlan inst incumbent) c.in-None.is c.in_ok-starts.ensures)

pub returns-in_ok-add_raised-in-Some : goal.returns-in_ok-add_raised-in-Some
returns-in_ok-add_raised-in-Some c =
    let inst = c.args.inst.now in
    let incumbent = option_map (λ given. given.now) c.args.incumbent in
    let added = c.in_ok-add_raised-in-Some.ensures in
    raised_for inst incumbent c.in-Some.starts c.args.end c.args.lists.now.items c.add_raised.new.lists.items
    (subst (FindsPlan inst incumbent) c.in-Some.is c.in_ok-starts.ensures) added.adds added.raised
