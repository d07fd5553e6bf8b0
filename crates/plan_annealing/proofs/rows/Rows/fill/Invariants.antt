use Rattle.plan_annealing.proofs.rows.Rows.fill.Given as goal

abbrev pub ghosts-read_run : goal.ghosts-read_run
ghosts-read_run a = record { name = a.blank.name; parts = a.blank.parts }
