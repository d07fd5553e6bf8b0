use Rattle.local_search.specs.Progress.{LeadsTo}
use Rattle.local_search.proofs.walk.walk.Given as goal

abbrev pub invariant-loop : goal.invariant-loop
invariant-loop g l = LeadsTo l.fn.kept l.fn.progress l.kept l.progress

abbrev pub decreases-loop : goal.decreases-loop
decreases-loop g l = l.progress.left
