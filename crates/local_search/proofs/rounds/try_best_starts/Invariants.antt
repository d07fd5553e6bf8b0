use Rattle.local_search.specs.Progress.{NoStartLowers}
use Rattle.local_search.proofs.SweepLemmas.{SweptTo}
use Rattle.local_search.proofs.rounds.try_best_starts.Given as goal

abbrev pub invariant-loop-i : goal.invariant-loop-i
invariant-loop-i g l = SweptTo NoStartLowers l.fn.kept l.fn.progress l.kept l.progress 0 l.i
