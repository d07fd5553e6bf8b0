use Rattle.std.proofs.Common.{◌≡◌, take}
use Rattle.plan_moves.specs.KeptPlans.{present}
use Rattle.local_search.proofs.ending.present_starts.Given as goal

abbrev pub invariant-loop-i : goal.invariant-loop-i
invariant-loop-i g l = l.starts.items ≡ take l.i (present l.kept.plans)
