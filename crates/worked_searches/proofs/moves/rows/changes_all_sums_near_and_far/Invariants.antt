use Rattle.worked_searches.proofs.moves.rows.changes_all_sums_near_and_far.Given as goal

abbrev pub ghosts-change_widths : goal.ghosts-change_widths
ghosts-change_widths g a = record { name = a.blank.name; parts = a.blank.parts }

abbrev pub ghosts-change_widths-2 : goal.ghosts-change_widths-2
ghosts-change_widths-2 g a = record { name = a.blank.name; parts = a.blank.parts }
