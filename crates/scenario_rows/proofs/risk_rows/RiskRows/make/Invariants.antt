use Rattle.scenario_rows.proofs.risk_rows.RiskRows.make.Given as goal

abbrev pub ghosts-rows_of : goal.ghosts-rows_of
ghosts-rows_of g a = record { name = a.blank.name; parts = a.blank.parts }
