use Rattle.price_ladder.specs.Phase.{AreSpots}
use Rattle.price_ladder.proofs.spot.priced_spots.Given as goal

abbrev pub invariant-loop-x : goal.invariant-loop-x
invariant-loop-x l = AreSpots l.inst l.spots.items
