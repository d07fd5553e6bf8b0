use Rattle.std.proofs.Common.{◌<◌, ap, arith, length, subst}
use Rattle.lagrange_bound.specs.Prices.{PriceList}
use Rattle.lagrange_bound.specs.ExSums.{AreExSums}
use Rattle.lagrange_bound.proofs.ExCountLemmas.{ex_few}
use Rattle.refined_prices.proofs.TablesReadLemmas.{read_as}
use Rattle.refined_prices.proofs.TablesPaidLemmas.{AreByRun-ex, AreByRun-more, paid_small}
use Rattle.refined_prices.proofs.tables.paid_sums.paid_sums.Goals as goal

pub loop-x-init : goal.loop-x-init
loop-x-init c = AreByRun-ex c.args.inst.now c.args.list.now.prices.ex c.in_ok-sums.sums.items
    (subst (λ (p : PriceList). AreExSums c.args.inst.now p.ex c.in_ok-sums.sums.items) c.prices.ensures
    c.in_ok-sums.ensures)

pub add_clique-requires-clause-small : goal.add_clique-requires-clause-small
add_clique-requires-clause-small c = λ i t l one few.
    let e = c.loop-x.invariant.at i t l one few in
    let s = paid_small c.args.inst.now c.args.list.now.prices.ex c.args.list.now.cliques c.loop-x.x-index i t
    c.requires.prices.ex (ex_few c.args.inst.now c.args.list.now.prices c.fits.ensures c.requires.prices)
    c.requires.cliques c.requires.few_cliques in
    omega (arith, e, s)

pub loop-x-preserved : goal.loop-x-preserved
loop-x-preserved c =
    let low : c.loop-x.x-index < length c.args.list.now.cliques = omega (arith, ap length c.cliques-x-items.ensures) in
    AreByRun-more c.args.inst.now c.args.list.now.prices.ex c.args.list.now.cliques c.loop-x.x-index c.x-item.result
    c.loop-x.sums.items c.add_clique.new.sums.items low
    (read_as c.cliques-x-items.result.now c.args.list.now.cliques c.loop-x.x-index c.x-item.result
    c.cliques-x-items.ensures c.loop-x-test.true c.x-item.is) c.loop-x.invariant c.add_clique.ensures.each
    c.add_clique.ensures.added
