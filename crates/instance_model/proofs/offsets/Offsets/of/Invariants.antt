use Rattle.std.proofs.Common.{◌≡◌, ℕ, ◌*◌, ◌≤◌, ◌<◌, length, slice_index_or, []}
use Rattle.instance_model.specs.Naturals.{count_sum}
use Rattle.instance_model.specs.Tables.{entries_of}
use Rattle.instance_model.specs.View.{tables_of, rows_of, column_at, AreRowPlaces}
use Rattle.instance_model.proofs.offsets.Offsets.of.Given as goal

abbrev pub invariant-loop-i : goal.invariant-loop-i
invariant-loop-i l =
    (l.first ≡ count_sum l.i (entries_of (tables_of l.parts) (column_at l.before.items)))
    × (l.first ≤ l.i * 268_435_456) × (length l.places.items ≡ l.i)
    × ((j : ℕ) → j < l.i → AreRowPlaces (tables_of l.parts) (column_at l.before.items) j (slice_index_or
    (rows_of l.places.items) j []))
