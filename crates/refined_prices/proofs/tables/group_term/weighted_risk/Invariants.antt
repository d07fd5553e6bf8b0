use Rattle.instance_model.specs.RiskNumbers.{numbers_of}
use Rattle.refined_prices.specs.tables.GroupTerms.{risk_in}
use Rattle.refined_prices.proofs.TablesRiskTermLemmas.{IsWeighted}
use Rattle.refined_prices.proofs.tables.group_term.weighted_risk.Given as goal

abbrev pub invariant-loop-member : goal.invariant-loop-member
invariant-loop-member l = IsWeighted (risk_in (numbers_of l.risks)) l.group l.member-index l.sum
