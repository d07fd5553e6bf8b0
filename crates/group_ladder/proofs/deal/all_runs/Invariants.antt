use Rattle.std.proofs.Common.{◌≡◌, ◌*◌, length}
use Rattle.group_ladder.proofs.deal.all_runs.Given as goal

abbrev pub invariant-loop-i : goal.invariant-loop-i
invariant-loop-i l = length l.runs.items ≡ length l.inst.names * l.inst.periods

abbrev pub invariant-loop-k : goal.invariant-loop-k
invariant-loop-k l = length l.runs.items ≡ length l.inst.names * l.inst.periods
