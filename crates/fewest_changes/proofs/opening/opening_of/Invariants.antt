use Rattle.fewest_changes.proofs.OpeningLemmas.{AreFirst}
use Rattle.fewest_changes.proofs.opening.opening_of.Given as goal

abbrev pub invariant-loop-i : goal.invariant-loop-i
invariant-loop-i l = AreFirst l.inst l.old l.starts.items l.i
