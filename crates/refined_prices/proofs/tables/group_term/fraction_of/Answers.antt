use Rattle.refined_prices.proofs.TablesRiskTermLemmas.{fraction_is}
use Rattle.refined_prices.proofs.tables.group_term.fraction_of.Goals as goal

pub returns-clause-value : goal.returns-clause-value
returns-clause-value c =
    (fraction_is c.args.alpha c.args.sum c.args.part c.requires.alpha c.requires.sum c.requires.part).0

pub returns-clause-small : goal.returns-clause-small
returns-clause-small c =
    let w = fraction_is c.args.alpha c.args.sum c.args.part c.requires.alpha c.requires.sum c.requires.part in
    rw w.0 w.1
