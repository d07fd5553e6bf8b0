use Rattle.std.proofs.Common.{ap, arith, length}
use Rattle.refined_prices.proofs.TablesReadLemmas.{read_as}
use Rattle.refined_prices.proofs.TablesOffsetSumLemmas.{IsTotalSoFar-none, IsTotalSoFar-more, IsTotalSoFar-all}
use Rattle.refined_prices.proofs.TablesOffsetSumLemmas.{clique_value_small}
use Rattle.refined_prices.proofs.tables.constant.clique_total.Goals as goal

pub loop-x-init : goal.loop-x-init
loop-x-init c = IsTotalSoFar-none c.args.list.now.cliques

pub overflow_add-sum : goal.overflow_add-sum
overflow_add-sum c =
    let each = ap length c.cliques-x-items.ensures in
    let is = read_as c.cliques-x-items.result.now c.args.list.now.cliques c.loop-x.x-index c.x-item.result
    c.cliques-x-items.ensures c.loop-x-test.true c.x-item.is in
    let one = clique_value_small c.args.inst.now c.args.list.now.cliques c.loop-x.x-index c.x-item.result
    c.requires.cliques (omega (arith, each, c.loop-x-test.true)) is in
    omega (arith, one, each, c.loop-x.invariant.small, c.loop-x-test.true, c.requires.few_cliques)

pub loop-x-preserved : goal.loop-x-preserved
loop-x-preserved c =
    let each = ap length c.cliques-x-items.ensures in
    let is = read_as c.cliques-x-items.result.now c.args.list.now.cliques c.loop-x.x-index c.x-item.result
    c.cliques-x-items.ensures c.loop-x-test.true c.x-item.is in
    let one = clique_value_small c.args.inst.now c.args.list.now.cliques c.loop-x.x-index c.x-item.result
    c.requires.cliques (omega (arith, each, c.loop-x-test.true)) is in
    IsTotalSoFar-more c.args.list.now.cliques c.loop-x.x-index c.loop-x.sum c.x-item.result
    (omega (arith, each, c.loop-x-test.true)) is one c.loop-x.invariant

pub returns-clause-value : goal.returns-clause-value
returns-clause-value c = IsTotalSoFar-all c.args.list.now.cliques c.loop-x.x-index c.loop-x.sum
    (omega (arith, ap length c.cliques-x-items.ensures, c.loop-x-test.false)) c.loop-x.invariant

pub returns-clause-small : goal.returns-clause-small
returns-clause-small c = omega (
  arith,
  ap length c.cliques-x-items.ensures,
  c.loop-x.invariant.small,
  c.requires.few_cliques,
)
