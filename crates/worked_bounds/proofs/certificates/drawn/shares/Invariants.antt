-- The ledger is the one that the blank becomes.
use Rattle.worked_bounds.proofs.certificates.drawn.shares.Given as goal

abbrev pub ghosts-shares_on : goal.ghosts-shares_on
ghosts-shares_on a = record { name = a.blank.name; parts = a.blank.parts }
