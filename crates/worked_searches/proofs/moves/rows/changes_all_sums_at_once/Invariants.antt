use Rattle.worked_searches.proofs.moves.rows.changes_all_sums_at_once.Given as goal

abbrev pub ghosts-change_all : goal.ghosts-change_all
ghosts-change_all g a = record { name = a.blank.name; parts = a.blank.parts }

abbrev pub ghosts-change_all-2 : goal.ghosts-change_all-2
ghosts-change_all-2 g a = record { name = a.blank.name; parts = a.blank.parts }
