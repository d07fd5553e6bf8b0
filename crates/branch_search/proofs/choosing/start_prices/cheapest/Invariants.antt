use Rattle.std.proofs.Common.{◌<◌, IfSome}
use Rattle.branch_search.proofs.choosing.start_prices.cheapest.Given as goal

abbrev pub invariant-loop-k : goal.invariant-loop-k
invariant-loop-k l = IfSome l.found (λ k. k < l.fn.past)
