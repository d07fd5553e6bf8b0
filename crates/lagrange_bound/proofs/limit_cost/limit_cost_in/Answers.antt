use Rattle.std.proofs.Common.{◌∙◌}
use Rattle.lagrange_bound.proofs.LimitLemmas.{IsLimitPriced-from, limit_share_is}
use Rattle.lagrange_bound.proofs.limit_cost.limit_cost_in.Goals as goal

pub overflow_sub-result : goal.overflow_sub-result
overflow_sub-result c = (IsLimitPriced-from c.up-up.result c.lo-lo.result c.upper.result c.lower.result
    c.up-up.ensures.small c.lo-lo.ensures.small c.upper.ensures.small c.lower.ensures.small).fits

pub returns-clause-value : goal.returns-clause-value
returns-clause-value c =
    (IsLimitPriced-from c.up-up.result c.lo-lo.result c.upper.result c.lower.result c.up-up.ensures.small
    c.lo-lo.ensures.small c.upper.ensures.small c.lower.ensures.small).value
    ∙ limit_share_is c.args.inst.now c.args.prices.now c.args.c c.args.t c.up-up.result c.lo-lo.result
    c.upper.result c.lower.result c.up-up.ensures.value c.lo-lo.ensures.value
    c.upper.ensures.value c.lower.ensures.value

pub returns-clause-small : goal.returns-clause-small
returns-clause-small c = (IsLimitPriced-from c.up-up.result c.lo-lo.result c.upper.result c.lower.result
    c.up-up.ensures.small c.lo-lo.ensures.small c.upper.ensures.small c.lower.ensures.small).small
