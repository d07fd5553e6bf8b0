use Rattle.worked_searches.proofs.moves.rows.finds_ranks_among_few_sums.Given as goal

abbrev pub ghosts-rank_few : goal.ghosts-rank_few
ghosts-rank_few g a = record { name = a.blank.name; parts = a.blank.parts }

abbrev pub ghosts-rank_few-2 : goal.ghosts-rank_few-2
ghosts-rank_few-2 g a = record { name = a.blank.name; parts = a.blank.parts }
