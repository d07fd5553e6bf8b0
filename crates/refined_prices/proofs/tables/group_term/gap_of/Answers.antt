use Rattle.refined_prices.proofs.TablesRiskTermLemmas.{gap_is}
use Rattle.refined_prices.proofs.tables.group_term.gap_of.Goals as goal

pub returns-clause-value : goal.returns-clause-value
returns-clause-value c = (gap_is c.args.n c.args.weight c.args.least c.args.sum c.requires.few c.requires.weight
    c.requires.least c.requires.sum).0

pub returns-clause-small : goal.returns-clause-small
returns-clause-small c =
    let w = gap_is c.args.n c.args.weight c.args.least c.args.sum c.requires.few c.requires.weight c.requires.least
    c.requires.sum in
    rw w.0 w.1
