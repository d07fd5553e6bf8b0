use Rattle.worked_plans.proofs.numbers.adds_and_compares.Given as goal

abbrev pub ghosts-compare : goal.ghosts-compare
ghosts-compare g a = record { name = a.blank.name; parts = a.blank.parts }
