use Rattle.price_ladder.proofs.plan_tail.plan_tail.Given as goal

abbrev pub ghosts-scenario_sums : goal.ghosts-scenario_sums
ghosts-scenario_sums a = record { name = a.blank.name; parts = a.blank.parts }
