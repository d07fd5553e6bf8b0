use Rattle.std.proofs.Common.{◌≡◌, take}
use Rattle.small_instances.proofs.sketch.limits.Given as goal

abbrev pub invariant-loop-count : goal.invariant-loop-count
invariant-loop-count l = l.limits.items ≡ take l.count-index l.counts
