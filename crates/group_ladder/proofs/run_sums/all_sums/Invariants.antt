use Rattle.std.proofs.Common.{◌≡◌, length}
use Rattle.group_ladder.proofs.run_sums.all_sums.Given as goal

abbrev pub invariant-loop-start : goal.invariant-loop-start
invariant-loop-start l = length l.sums.items ≡ l.inst.periods
