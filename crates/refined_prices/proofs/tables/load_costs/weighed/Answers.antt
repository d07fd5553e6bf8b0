use Rattle.refined_prices.proofs.TablesLoadCostLemmas.{weighed_is}
use Rattle.refined_prices.proofs.tables.load_costs.weighed.Goals as goal

pub returns-clause-value : goal.returns-clause-value
returns-clause-value c = (weighed_is c.args.up c.args.lo c.args.load c.args.counted c.requires.up c.requires.lo
    c.requires.load c.requires.counted).0

pub returns-clause-small : goal.returns-clause-small
returns-clause-small c =
    let w = weighed_is c.args.up c.args.lo c.args.load c.args.counted c.requires.up c.requires.lo c.requires.load
    c.requires.counted in
    rw w.0 w.1
