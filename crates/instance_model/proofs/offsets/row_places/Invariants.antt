use Rattle.std.proofs.Common.{◌≡◌, ℕ, ◌+◌, ◌*◌, ◌≤◌, ◌<◌, length, slice_index}
use Rattle.instance_model.specs.Tables.{entries_before}
use Rattle.instance_model.specs.View.{tables_of, column_at}
use Rattle.instance_model.proofs.offsets.row_places.Given as goal

abbrev pub invariant-loop-k : goal.invariant-loop-k
invariant-loop-k l =
    (l.at ≡ entries_before (tables_of l.parts) (column_at l.before) l.i (l.k + 1)) × (l.at ≤ l.first + l.k * 524_288)
    × (length l.row.items ≡ l.k)
    × ((j : ℕ) → j < l.k
    → slice_index l.row.items j ≡ entries_before (tables_of l.parts) (column_at l.before) l.i (j + 1))
