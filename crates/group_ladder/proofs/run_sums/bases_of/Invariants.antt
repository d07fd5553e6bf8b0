use Rattle.std.proofs.Common.{◌≡◌, length}
use Rattle.group_ladder.proofs.run_sums.bases_of.Given as goal

abbrev pub invariant-loop-start : goal.invariant-loop-start
invariant-loop-start l = length l.bases.items ≡ l.start-index
