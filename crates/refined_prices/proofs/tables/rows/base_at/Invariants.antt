use Rattle.refined_prices.proofs.tables.rows.base_at.Given as goal

abbrev pub ghosts-group_base : goal.ghosts-group_base
ghosts-group_base a = record { name = a.blank.name; parts = a.blank.parts }
