use Rattle.std.proofs.Common.{ℕ, ◌<◌, get_or}
use Rattle.refined_prices.specs.Cliques.{ArePair}
use Rattle.refined_prices.proofs.tables.clique_test.excludes_later.Given as goal

abbrev pub invariant-loop-j : goal.invariant-loop-j
invariant-loop-j l = (j : ℕ) → l.k < j → j < l.j → ArePair l.inst l.t (get_or l.members l.k 0) (get_or l.members j 0)
