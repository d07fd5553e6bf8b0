use Rattle.std.proofs.Common.{◌≤◌}
use Rattle.plan_annealing.proofs.scan.put.Given as goal

abbrev pub invariant-loop-k : goal.invariant-loop-k
invariant-loop-k l = l.place ≤ l.j
