use Rattle.price_ladder.specs.Phase.{AreSpots}
use Rattle.price_ladder.proofs.spot.push_spots.Given as goal

abbrev pub invariant-loop-t : goal.invariant-loop-t
invariant-loop-t l = AreSpots l.inst l.spots.items
