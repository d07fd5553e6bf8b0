use Rattle.refined_prices.proofs.TablesOffsetSumLemmas.{constant_bits}
use Rattle.refined_prices.proofs.tables.constant.constant_from.Goals as goal

pub returns : goal.returns
returns c =
    constant_bits c.args.fixed c.args.cliques c.args.cost c.requires.fixed c.requires.cliques c.requires.cost
