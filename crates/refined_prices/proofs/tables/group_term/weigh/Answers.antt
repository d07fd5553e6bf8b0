use Rattle.refined_prices.proofs.TablesRiskTermLemmas.{weigh_is}
use Rattle.refined_prices.proofs.tables.group_term.weigh.Goals as goal

pub returns-clause-value : goal.returns-clause-value
returns-clause-value c = (weigh_is c.args.weight c.args.risk c.requires.weight c.requires.risk).0

pub returns-clause-small : goal.returns-clause-small
returns-clause-small c =
    let w = weigh_is c.args.weight c.args.risk c.requires.weight c.requires.risk in
    rw w.0 w.1
