use Rattle.local_search.proofs.descent.descend.Given as goal

-- steps are counted on the ledger that the blank becomes
abbrev pub ghosts-descend_on : goal.ghosts-descend_on
ghosts-descend_on g a = record { name = a.blank.name; parts = a.blank.parts }
