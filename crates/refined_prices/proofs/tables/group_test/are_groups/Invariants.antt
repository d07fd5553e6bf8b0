use Rattle.refined_prices.proofs.TablesGroupTestLemmas.{AreTaken}
use Rattle.refined_prices.proofs.tables.group_test.are_groups.Given as goal

abbrev pub invariant-loop-group : goal.invariant-loop-group
invariant-loop-group l = AreTaken l.n l.total l.group-index l.groups l.taken.items
