use Rattle.std.proofs.Common.{◌≡◌, length}
use Rattle.price_ladder.proofs.ascent.coarse_bases.Given as goal

abbrev pub invariant-loop-base : goal.invariant-loop-base
invariant-loop-base l = length l.coarse.items ≡ l.base-index
