use Rattle.std.proofs.Common.{◌≡◌, [], replicate}
use Rattle.refined_prices.proofs.tables.offset_rows.no_offsets.Given as goal

abbrev pub invariant-loop-i : goal.invariant-loop-i
invariant-loop-i l = l.lists.items ≡ replicate l._i []
