use Rattle.std.proofs.Common.{refl, arith}
use Rattle.certificate_tree.specs.declared.node.Node.TheVariants.{Cost}
use Rattle.certificate_tree.specs.Trees.{leaf}
use Rattle.branch_search.proofs.searching.search_by.Goals as goal

-- the tree of one leaf
pub go_on-requires-clause-tree : goal.go_on-requires-clause-tree
go_on-requires-clause-tree g c = (leaf (Cost 0), record { order = refl; in_range = omega arith })
