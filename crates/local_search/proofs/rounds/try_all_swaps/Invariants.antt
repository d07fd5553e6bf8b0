use Rattle.local_search.specs.Progress.{NoSwapLowers}
use Rattle.local_search.proofs.SweepLemmas.{SweptTo}
use Rattle.local_search.proofs.rounds.try_all_swaps.Given as goal

abbrev pub invariant-loop-i : goal.invariant-loop-i
invariant-loop-i g l = SweptTo NoSwapLowers l.fn.kept l.fn.progress l.kept l.progress 0 l.i
