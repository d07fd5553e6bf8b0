use Rattle.std.proofs.Common.{ℕ, ◌<◌, get_or}
use Rattle.refined_prices.specs.Cliques.{Excludes}
use Rattle.refined_prices.proofs.tables.clique_test.exclude_each_other.Given as goal

abbrev pub invariant-loop-e : goal.invariant-loop-e
invariant-loop-e l = (k : ℕ) → k < l.e-index → ¬ Excludes l.inst (get_or l.e-items k 0) l.t l.i l.j
