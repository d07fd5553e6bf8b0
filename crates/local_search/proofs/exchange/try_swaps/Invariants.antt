use Rattle.std.proofs.Common.{◌+◌}
use Rattle.plan_moves.specs.declared.change.Change.TheVariants.{Swap}
use Rattle.plan_moves.specs.KeptPlans.{present}
use Rattle.local_search.specs.Progress.{LowersNot}
use Rattle.local_search.proofs.SweepLemmas.{SweptTo}
use Rattle.local_search.proofs.exchange.try_swaps.Given as goal

abbrev pub invariant-loop-j : goal.invariant-loop-j
invariant-loop-j g l = SweptTo (λ kept j. LowersNot kept.instance (present kept.plans) (Swap l.i j)) l.fn.kept
    l.fn.progress l.kept l.progress (l.i + 1) l.j
