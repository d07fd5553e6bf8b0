use Rattle.price_ladder.proofs.BudgetLemmas.{IsTotalTo}
use Rattle.price_ladder.proofs.budget.limit_total.Given as goal

abbrev pub invariant-loop-k : goal.invariant-loop-k
invariant-loop-k l = IsTotalTo l.prices l.k l.total
