use Rattle.worked_searches.proofs.moves.kept.goes_there_and_back_over_tree_rows.Given as goal

abbrev pub ghosts-goes_there_and_back : goal.ghosts-goes_there_and_back
ghosts-goes_there_and_back g a = record { name = a.blank.name; parts = a.blank.parts }
