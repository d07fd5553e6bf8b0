use Rattle.std.proofs.Common.{◌≡◌, ◌∙◌, ◌+◌, ◌-◌, ◌≤◌, ℕ, List, Option, None, ap, arith, get_or, max}
use Rattle.std.proofs.Math.Nat.{le-max_left, le-max_right, max-le}
use Rattle.instance_model.specs.Tables.{scenarios_of, rank_of}
use Rattle.instance_model.proofs.FitLemmas.{scenarios_of_small}
use Rattle.refined_prices.proofs.TablesReadLemmas.{greater_is}
use Rattle.refined_prices.specs.declared.group_tail.GroupTail.{GroupTail}
use Rattle.refined_prices.specs.Offsets.{group_count}
use Rattle.refined_prices.proofs.TablesOffsetRowLemmas.{AreWithinSoFar-more, count_few}
use Rattle.refined_prices.proofs.tables.width.width_of.Goals as goal

pub loop-u-preserved : goal.loop-u-preserved
loop-u-preserved c =
    let here : c.groups_at.result ≡ group_count (get_or c.args.list.now.tails c.loop-u.u None) =
    c.groups_at.ensures
    ∙ ap (λ (xs : List (Option GroupTail)). group_count (get_or xs (c.loop-u.u + 1 - 1) None)) c.tails.ensures
    ∙ ap (λ (k : ℕ). group_count (get_or c.args.list.now.tails k None)) (omega arith) in
    let same : group_count (get_or c.args.list.now.tails (c.loop-u.u + 1 - 1) None)
    ≡ group_count (get_or c.args.list.now.tails c.loop-u.u None) =
    ap (λ (k : ℕ). group_count (get_or c.args.list.now.tails k None)) (omega arith) in
    let small = count_few (scenarios_of c.args.inst.now (c.loop-u.u + 1)) (rank_of c.args.inst.now (c.loop-u.u + 1))
    (get_or c.args.list.now.tails (c.loop-u.u + 1 - 1) None)
    (scenarios_of_small c.args.inst.now (c.loop-u.u + 1) c.fits.ensures (omega arith) (omega arith)).1
    (c.requires.tails (c.loop-u.u + 1) (omega arith) (omega arith)) in
    let few : c.groups_at.result ≤ 1025 = omega (arith, here, same, small) in
    let greater : c.max-width.result ≡ max c.loop-u.width c.groups_at.result =
    c.max-width.ensures ∙ greater_is c.loop-u.width c.groups_at.result in
    AreWithinSoFar-more c.args.list.now.tails c.loop-u.u c.loop-u.width c.groups_at.result c.max-width.result
    c.loop-u.invariant here few (rw greater (le-max_left c.loop-u.width c.groups_at.result))
    (rw greater (le-max_right c.loop-u.width c.groups_at.result))
    (rw greater (max-le c.loop-u.invariant.few few))
