use Rattle.std.proofs.Common.{take}
use Rattle.quantile_index.specs.Ranking.{IsRanking}
use Rattle.quantile_index.proofs.tree_row.tree_of.Given as goal

abbrev pub invariant-loop-i : goal.invariant-loop-i
invariant-loop-i g l = IsRanking l.tree.0 (take l.i l.from)
