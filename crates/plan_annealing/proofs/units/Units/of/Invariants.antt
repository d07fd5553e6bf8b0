use Rattle.plan_annealing.proofs.units.Units.of.Given as goal

abbrev pub ghosts-most_risk : goal.ghosts-most_risk
ghosts-most_risk a = record { name = a.blank.name; parts = a.blank.parts }
