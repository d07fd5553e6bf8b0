use Rattle.std.proofs.Common.{◌≡◌, map, take}
use Rattle.small_instances.proofs.sketch.duration_rows.Given as goal

abbrev pub invariant-loop-row : goal.invariant-loop-row
invariant-loop-row l = map (λ ds. ds.items) l.delta.items ≡ map (λ row. row.now) (take l.row-index l.rows)
