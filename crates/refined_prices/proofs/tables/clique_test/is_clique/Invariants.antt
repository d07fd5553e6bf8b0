use Rattle.std.proofs.Common.{ℕ, ◌<◌, length, get_or}
use Rattle.refined_prices.specs.Cliques.{ArePair}
use Rattle.refined_prices.proofs.tables.clique_test.is_clique.Given as goal

abbrev pub invariant-loop-k : goal.invariant-loop-k
invariant-loop-k l = (k : ℕ) → k < l.k → (get_or l.members k 0 < length l.inst.names)
    × ((j : ℕ) → k < j → j < length l.members → ArePair l.inst l.t (get_or l.members k 0) (get_or l.members j 0))
