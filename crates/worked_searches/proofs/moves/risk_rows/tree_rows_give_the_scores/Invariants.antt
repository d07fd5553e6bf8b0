use Rattle.worked_searches.proofs.moves.risk_rows.tree_rows_give_the_scores.Given as goal

abbrev pub ghosts-gives_the_scores : goal.ghosts-gives_the_scores
ghosts-gives_the_scores g a = record { name = a.blank.name; parts = a.blank.parts }
