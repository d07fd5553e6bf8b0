use Rattle.std.proofs.Common.{◌≡◌, ℕ, ◌*◌, ◌<◌, pos, length, get_or}
use Rattle.refined_prices.proofs.TablesCapTableLemmas.{IsMostTaken}
use Rattle.refined_prices.proofs.tables.cap_table.taken_by.Given as goal

abbrev pub invariant-loop-cell : goal.invariant-loop-cell
invariant-loop-cell l = record {
  each : length l.row.items ≡ length l.inst.resource_names * l.inst.periods;
  taken : (k : ℕ) → k < length l.row.items
      → IsMostTaken l.inst.periods l.cell-items l.cell-index k (get_or l.row.items k (pos 0));
}
