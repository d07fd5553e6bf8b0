use Rattle.std.proofs.Common.{rules}
use Rattle.lagrange_bound.specs.Worth.{price_total}
use Rattle.price_ladder.proofs.budget.is_small.Goals as goal

pub returns-then-limit_total-exclusion_total-le-MOST : goal.returns-then-limit_total-exclusion_total-le-MOST
unfolding price_total
returns-then-limit_total-exclusion_total-le-MOST c = search rules

pub returns-else-limit_total-exclusion_total-le-MOST : goal.returns-else-limit_total-exclusion_total-le-MOST
unfolding price_total
returns-else-limit_total-exclusion_total-le-MOST c = search rules
