use Rattle.std.proofs.Common.{◌≡◌, map, take}
use Rattle.small_instances.specs.Sketches.{cell_of}
use Rattle.small_instances.proofs.sketch.cells.Given as goal

abbrev pub invariant-loop-start : goal.invariant-loop-start
invariant-loop-start l = l.cells.items ≡ map cell_of (take l.start-index l.works)
