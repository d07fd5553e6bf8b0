use Rattle.std.proofs.Common.{length}
use Rattle.group_ladder.specs.Search.{AreSpots}
use Rattle.group_ladder.proofs.clique.all_spots.Given as goal

abbrev pub invariant-loop-t : goal.invariant-loop-t
invariant-loop-t l = AreSpots l.inst (length l.sets) l.spots.items
