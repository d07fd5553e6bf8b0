use Rattle.certificate_tree.specs.Holding.{worth_by}
use Rattle.certificate_tree.specs.PriceTables.{AreTablesOf}
use Rattle.certificate_tree.proofs.price_tables.tables_of.Given as goal

abbrev pub invariant-loop-prices : goal.invariant-loop-prices
invariant-loop-prices g l =
    AreTablesOf l.inst l.prices-index (worth_by (g.G.Goal.base_gives l.goal) l.inst l.lists) l.tables.items
