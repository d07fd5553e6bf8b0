use Rattle.instance_writer.proofs.risks.risks_of_run.Given as goal

abbrev pub ghosts-risks_on : goal.ghosts-risks_on
ghosts-risks_on g a = record { name = a.blank.name; parts = a.blank.parts }
