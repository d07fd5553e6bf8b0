use Rattle.local_search.specs.Progress.{LeadsTo}
use Rattle.local_search.proofs.walk.walk_once.Given as goal

abbrev pub invariant-loop-i : goal.invariant-loop-i
invariant-loop-i g l = LeadsTo l.fn.kept l.fn.progress l.kept l.progress
