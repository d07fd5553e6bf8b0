use Rattle.price_ladder.specs.Phase.{AreSpots}
use Rattle.price_ladder.proofs.spot.all_spots.Given as goal

abbrev pub invariant-loop-e : goal.invariant-loop-e
invariant-loop-e l = AreSpots l.inst l.spots.items
