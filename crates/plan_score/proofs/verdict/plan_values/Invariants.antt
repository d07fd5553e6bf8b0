use Rattle.plan_score.proofs.verdict.plan_values.Given as goal

abbrev pub ghosts-values_on : goal.ghosts-values_on
ghosts-values_on a = record { name = a.blank.name; parts = a.blank.parts }
