use Rattle.local_search.proofs.OpeningLemmas.{AreFirst}
use Rattle.local_search.proofs.opening.opening_of.Given as goal

abbrev pub invariant-loop-i : goal.invariant-loop-i
invariant-loop-i l = AreFirst l.inst l.starts.items l.i
