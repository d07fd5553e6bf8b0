use Rattle.std.proofs.Common.{rules}
use Rattle.quantile_index.proofs.LateLemmas.{not_behind}
use Rattle.quantile_index.proofs.tree_row.TreeRowRow.make.Goals as goal

pub invariant_of-result : goal.invariant_of-result
invariant_of-result c = not_behind _ _ _ _ (search rules)
