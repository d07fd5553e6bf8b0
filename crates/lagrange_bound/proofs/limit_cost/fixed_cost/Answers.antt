use Rattle.lagrange_bound.proofs.LimitLemmas.{fixed_is}
use Rattle.lagrange_bound.proofs.limit_cost.fixed_cost.Goals as goal

pub returns-clause-value : goal.returns-clause-value
returns-clause-value c = fixed_is c.args.inst.now c.args.prices.now c.limit_cost.result c.ex_total.result
    c.limit_cost.ensures.value c.ex_total.ensures.value c.limit_cost.ensures.small c.ex_total.ensures.small
