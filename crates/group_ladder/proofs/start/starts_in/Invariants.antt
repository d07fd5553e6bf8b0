use Rattle.group_ladder.proofs.start.starts_in.Given as goal

abbrev pub ghosts-starts_on : goal.ghosts-starts_on
ghosts-starts_on a = record { name = a.blank.name; parts = a.blank.parts }
