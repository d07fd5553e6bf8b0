use Rattle.worked_files.proofs.instances.files.is_good.Given as goal

abbrev pub ghosts-has_all_running : goal.ghosts-has_all_running
ghosts-has_all_running g a = record { name = a.blank.name; parts = a.blank.parts }
