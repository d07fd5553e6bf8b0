use Rattle.std.proofs.Common.{◌≡◌, map}
use Rattle.std.specs.List.{range_with_len}
use Rattle.lagrange_bound.proofs.RowLemmas.{items_of}
use Rattle.refined_prices.specs.tables.RefinedRows.{refined_row}
use Rattle.refined_prices.proofs.tables.rows.price_rows.Given as goal

abbrev pub invariant-loop-i : goal.invariant-loop-i
invariant-loop-i l = items_of l.rows.items ≡ map (refined_row l.inst l.list) (range_with_len 0 l.i)
