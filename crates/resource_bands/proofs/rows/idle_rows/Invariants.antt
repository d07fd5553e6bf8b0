use Rattle.std.proofs.Common.{◌≡◌, pos, replicate}
use Rattle.resource_bands.proofs.rows.idle_rows.Given as goal

abbrev pub invariant-loop-c : goal.invariant-loop-c
invariant-loop-c l = l.rows.items ≡ replicate l._c (replicate l.inst.periods (pos 0))
