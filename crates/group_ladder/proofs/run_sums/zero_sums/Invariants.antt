use Rattle.std.proofs.Common.{◌≡◌, ◌-◌, length}
use Rattle.group_ladder.proofs.run_sums.zero_sums.Given as goal

abbrev pub invariant-loop-t : goal.invariant-loop-t
invariant-loop-t l = length l.sums.items ≡ l.t - 1
