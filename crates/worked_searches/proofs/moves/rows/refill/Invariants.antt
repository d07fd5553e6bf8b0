use Rattle.std.proofs.Common.{◌≡◌, length}
use Rattle.worked_searches.proofs.moves.rows.refill.Given as goal

abbrev pub invariant-loop-k : goal.invariant-loop-k
invariant-loop-k g l = length (g.R.Row.sums l.row) ≡ length (g.R.Row.sums l.initial.row)
