use Rattle.std.proofs.Common.{sym, subst, List, ℕ}
use Rattle.refined_check.specs.certificate.Orders.{IsInOrder}
use Rattle.price_ladder.specs.Raised.{IsRaised as IsRaisedFor}
use Rattle.refined_search.proofs.LentLemmas.{told_in_order}
use Rattle.refined_search.proofs.ListLemmas.{adds_at_most_one, has_raised_from}
use Rattle.refined_search.proofs.lists.add_raised.Goals as goal

pub returns-clause-adds : goal.returns-clause-adds
returns-clause-adds c =
    let inst = c.args.inst.now in
    let list = c.in_ok-list in
    adds_at_most_one inst list.list c.args.end c.args.lists.now.items c.add_list.new.lists.items c.requires.lists
    list.ensures.same.in_range
    (subst IsInOrder (sym list.ensures.value)
    (told_in_order inst c.in_ok-prices.prices c.in_ok-prices.ensures.in_range c.versions_stay_in_range.ensures))
    c.requires.few c.requires.room c.in_ok-add_list.ensures

pub returns-clause-raised : goal.returns-clause-raised
returns-clause-raised c =
    let inst = c.args.inst.now in
    has_raised_from inst c.args.starts.now c.in_ok-prices.prices c.in_ok-list.list c.args.lists.now.items
    c.add_list.new.lists.items
    (subst (λ (s : List ℕ). IsRaisedFor inst s c.in_ok-prices.prices) c.as_slice.ensures c.in_ok-prices.ensures.raised)
    c.in_ok-prices.ensures.not_below_zeros c.in_ok-list.ensures.value c.in_ok-add_list.ensures
