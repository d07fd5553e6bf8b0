use Rattle.refined_prices.proofs.TablesOrderLemmas.{members_decide}
use Rattle.refined_prices.proofs.tables.list_test.clique_before.Goals as goal

pub returns-then-a-b-2 : goal.returns-then-a-b-2
returns-then-a-b-2 c = members_decide c.args.a.now c.args.b.now c.as_slice.result.now c.as_slice-then-a-b-2.result.now
    c.lt.result c.if-a-b-2.true c.as_slice.ensures c.as_slice-then-a-b-2.ensures c.lt.ensures
