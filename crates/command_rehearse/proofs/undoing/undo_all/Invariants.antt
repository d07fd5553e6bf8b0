use Rattle.command_rehearse.proofs.undoing.undo_all.Given as goal

-- steps are counted on the ledger that the blank becomes
abbrev pub ghosts-undo_on : goal.ghosts-undo_on
ghosts-undo_on g a = record { name = a.blank.name; parts = a.blank.parts }
