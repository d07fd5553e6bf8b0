use Rattle.group_ladder.proofs.start.mean_risk.Given as goal

abbrev pub ghosts-mean_on : goal.ghosts-mean_on
ghosts-mean_on a = record { name = a.blank.name; parts = a.blank.parts }
