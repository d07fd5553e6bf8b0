use Rattle.std.proofs.Common.{ℕ, ◌<◌, ◌≤◌, length, get_or}
use Rattle.refined_prices.specs.declared.clique.Clique.{Clique}
use Rattle.refined_search.proofs.order.have_two_members.Given as goal

abbrev pub invariant-loop-clique : goal.invariant-loop-clique
invariant-loop-clique l =
    (k : ℕ) (d : Clique) → k < l.clique-index → 2 ≤ length (get_or l.cliques k d).members
