use Rattle.std.proofs.Common.{◌≡◌, ◌-◌, map}
use Rattle.std.specs.List.{range_with_len}
use Rattle.refined_prices.specs.tables.RefinedRows.{refined_entry}
use Rattle.refined_prices.proofs.tables.rows.refined_row.Given as goal

abbrev pub invariant-loop-s : goal.invariant-loop-s
invariant-loop-s l = l.row.items ≡ map (refined_entry l.inst l.list l.i) (range_with_len 1 (l.s - 1))
