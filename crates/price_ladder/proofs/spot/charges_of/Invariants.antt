use Rattle.std.proofs.Common.{◌≡◌, length}
use Rattle.price_ladder.proofs.spot.charges_of.Given as goal

abbrev pub invariant-loop-spot : goal.invariant-loop-spot
invariant-loop-spot l = length l.charges.items ≡ l.spot-index
