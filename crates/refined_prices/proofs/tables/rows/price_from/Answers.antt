use Rattle.refined_prices.proofs.TablesRowLemmas.{price_bits}
use Rattle.refined_prices.proofs.tables.rows.price_from.Goals as goal

pub returns : goal.returns
returns c = price_bits c.args.base c.args.limits c.args.paid c.requires.base c.requires.limits c.requires.paid
