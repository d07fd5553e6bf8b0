use Rattle.std.proofs.Common.{length}
use Rattle.group_ladder.specs.Search.{AreSpots}
use Rattle.group_ladder.proofs.clique.push_spots.Given as goal

abbrev pub invariant-loop-k : goal.invariant-loop-k
invariant-loop-k l = AreSpots l.inst (length l.sets) l.spots.items
