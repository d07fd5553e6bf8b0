use Rattle.std.proofs.Common.{◌≡◌, take}
use Rattle.plan_score.proofs.period.read_sums.Given as goal

abbrev pub invariant-loop-sum : goal.invariant-loop-sum
invariant-loop-sum g l = l.values.items ≡ take l.sum-index l.sums
