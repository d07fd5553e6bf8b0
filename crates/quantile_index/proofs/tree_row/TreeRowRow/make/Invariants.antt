use Rattle.quantile_index.proofs.tree_row.TreeRowRow.make.Given as goal

abbrev pub ghosts-tree_of : goal.ghosts-tree_of
ghosts-tree_of a = record { name = a.blank.name; parts = a.blank.parts }
