use Rattle.refined_search.proofs.RowLemmas.{AreSameTo}
use Rattle.refined_search.proofs.compare.are_same_rows.Given as goal

abbrev pub invariant-loop-k : goal.invariant-loop-k
invariant-loop-k l = AreSameTo l.a l.b l.k
