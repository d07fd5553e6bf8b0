use Rattle.worked_searches.proofs.moves.rows.finds_ranks_among_1024_sums.Given as goal

abbrev pub ghosts-rank_most : goal.ghosts-rank_most
ghosts-rank_most g a = record { name = a.blank.name; parts = a.blank.parts }

abbrev pub ghosts-rank_most-2 : goal.ghosts-rank_most-2
ghosts-rank_most-2 g a = record { name = a.blank.name; parts = a.blank.parts }
