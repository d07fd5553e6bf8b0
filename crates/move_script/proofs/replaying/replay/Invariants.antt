use Rattle.move_script.proofs.replaying.replay.Given as goal

-- steps are counted on the ledger that the blank becomes
abbrev pub ghosts-replay_lines : goal.ghosts-replay_lines
ghosts-replay_lines g a = record { name = a.blank.name; parts = a.blank.parts }
