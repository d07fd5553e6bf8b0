use Rattle.std.proofs.Common.{◌<◌, length}
use Rattle.plan_annealing.proofs.scan.insert.Given as goal

abbrev pub invariant-loop-k : goal.invariant-loop-k
invariant-loop-k l = l.place < length l.greatest
