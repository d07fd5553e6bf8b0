use Rattle.std.proofs.Common.{ap}
use Rattle.lagrange_bound.specs.Tabulated.{PriceRows}
use Rattle.lagrange_bound.proofs.LeastLemmas.{worth_is}
use Rattle.lagrange_bound.proofs.table.worth.Goals as goal

pub returns-clause-value : goal.returns-clause-value
returns-clause-value c = worth_is c.args.table.now c.args.spans.now c.least_prices.result c.table.inside.fixed
    (ap (λ (t : PriceRows). t.fixed) c.table.view_is) c.least_prices.ensures.value c.least_prices.ensures.small
    c.table.invariant.fixed
