use Rattle.std.proofs.Common.{◌≡◌, ◌<◌, ℕ, [], length, get_or, take}
use Rattle.refined_prices.specs.tables.OffsetRows.{own_offsets}
use Rattle.refined_prices.proofs.tables.offset_rows.own_offsets.Given as goal

abbrev pub invariant-loop-x : goal.invariant-loop-x
invariant-loop-x l = record {
  each : length l.lists.items ≡ length l.inst.names;
  own : (i : ℕ) → i < length l.inst.names
      → get_or l.lists.items i [] ≡ own_offsets (take l.x-index l.list.offsets) i;
}
