use Rattle.std.proofs.Common.{◌∙◌, ◌+ℤ◌, ◌*◌, ℤ, ap, pos}
use Rattle.refined_prices.proofs.TablesRiskTermLemmas.{group_sum_is}
use Rattle.refined_prices.proofs.tables.group_term.group_sum.Goals as goal

pub returns-clause-value : goal.returns-clause-value
returns-clause-value c =
    (group_sum_is c.weighted_risk.result c.args.offset c.weighted_risk.ensures.small c.requires.offset).0
    ∙ ap (λ (z : ℤ). z +ℤ pos (1_000_000_000_000 * c.args.offset)) c.weighted_risk.ensures.value

pub returns-clause-small : goal.returns-clause-small
returns-clause-small c =
    let w = group_sum_is c.weighted_risk.result c.args.offset c.weighted_risk.ensures.small c.requires.offset in
    rw w.0 w.1
