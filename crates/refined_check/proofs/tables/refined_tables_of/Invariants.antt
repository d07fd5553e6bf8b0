use Rattle.certificate_tree.specs.PriceTables.{AreTablesOf}
use Rattle.refined_check.specs.Worths.{refined_worths}
use Rattle.refined_check.proofs.tables.refined_tables_of.Given as goal

abbrev pub invariant-loop-list : goal.invariant-loop-list
invariant-loop-list l = AreTablesOf l.inst l.list-index (refined_worths l.inst l.lists) l.tables.items
