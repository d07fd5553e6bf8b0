use Rattle.std.proofs.Common.{◌≡◌}
use Rattle.local_search.proofs.BestLemmas.{IsBestBelow}
use Rattle.local_search.proofs.best.best_start.Given as goal

abbrev pub invariant-loop-s : goal.invariant-loop-s
invariant-loop-s g l = record {
  same : l.kept ≡ l.fn.kept;
  best : IsBestBelow l.fn.kept l.i l.s l.best l.least;
}
