use Rattle.std.proofs.Common.{◌<◌, length}
use Rattle.group_ladder.proofs.pricing.cheapest.Given as goal

abbrev pub invariant-loop-k : goal.invariant-loop-k
invariant-loop-k l = l.best < length l.entries
