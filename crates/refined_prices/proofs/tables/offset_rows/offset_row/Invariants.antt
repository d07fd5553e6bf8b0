use Rattle.refined_prices.proofs.TablesOffsetRowLemmas.{IsRowSoFar}
use Rattle.refined_prices.proofs.tables.offset_rows.offset_row.Given as goal

abbrev pub invariant-loop-k : goal.invariant-loop-k
invariant-loop-k l = IsRowSoFar l.inst l.own l.width l.i l.k l.row.items
