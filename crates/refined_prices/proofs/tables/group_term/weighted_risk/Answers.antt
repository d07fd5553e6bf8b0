use Rattle.std.proofs.Common.{◌∙◌, ◌≤◌, ◌*ℤ◌, ℤ, ap, arith, get_or, pos, refl, unsigned_abs}
use Rattle.fixed_num.proofs.SignedLemmas.{back_from_abs}
use Rattle.instance_model.specs.RiskNumbers.{numbers_of}
use Rattle.refined_prices.specs.tables.GroupTerms.{risk_in}
use Rattle.refined_prices.proofs.TablesRiskTermLemmas.{IsWeighted-none, IsWeighted-more, IsWeighted-all}
use Rattle.refined_prices.proofs.TablesRiskTermLemmas.{IsWeighted-fits}
use Rattle.refined_prices.proofs.TablesRiskTermLemmas.{weight_le}
use Rattle.refined_prices.proofs.tables.group_term.weighted_risk.Goals as goal

pub loop-member-init : goal.loop-member-init
loop-member-init c = IsWeighted-none (risk_in (numbers_of c.args.risks)) c.args.group.now

pub loop-member-preserved : goal.loop-member-preserved
loop-member-preserved c =
    let k = c.loop-member.member-index in
    let small : unsigned_abs c.count.result ≤ 100_000_000_000_000_000_000 = omega (arith, c.count.ensures.small) in
    let b = back_from_abs c.count.result (omega (arith, small)) in
    IsWeighted-more (risk_in (numbers_of c.args.risks)) c.args.group.now c.loop-member.member-index
    (get_or c.args.group.now c.loop-member.member-index (record { scenario = 0; weight = 0 })).weight
    (get_or c.args.group.now c.loop-member.member-index (record { scenario = 0; weight = 0 })).scenario
    (record { scenario = 0; weight = 0 }) _ c.weigh-sum.result c.loop-member-test.true c.requires.weights refl refl
    c.loop-member.invariant
    (c.weigh-sum.ensures.value ∙ ap (λ (z : ℤ).
    pos (get_or c.args.group.now c.loop-member.member-index (record { scenario = 0; weight = 0 })).weight *ℤ z)
    (b ∙ c.count.ensures.value ∙ c.at.ensures)) c.weigh-sum.ensures.small

pub returns-clause-value : goal.returns-clause-value
returns-clause-value c = (IsWeighted-all (risk_in (numbers_of c.args.risks)) c.args.group.now
    c.loop-member.member-index _ (omega (arith, c.loop-member-test.false)) c.requires.weights
    c.loop-member.invariant).0

pub returns-clause-small : goal.returns-clause-small
returns-clause-small c = (IsWeighted-all (risk_in (numbers_of c.args.risks)) c.args.group.now
    c.loop-member.member-index _ (omega (arith, c.loop-member-test.false)) c.requires.weights
    c.loop-member.invariant).1

pub weigh-sum-requires-clause-weight : goal.weigh-sum-requires-clause-weight
weigh-sum-requires-clause-weight c = weight_le c.args.group.now c.loop-member.member-index
    (record { scenario = 0; weight = 0 }) c.loop-member-test.true c.requires.weights

pub overflow_add-sum : goal.overflow_add-sum
overflow_add-sum c = IsWeighted-fits (risk_in (numbers_of c.args.risks)) c.args.group.now c.loop-member.member-index
    (get_or c.args.group.now c.loop-member.member-index (record { scenario = 0; weight = 0 })).weight _
    c.weigh-sum.result c.requires.weights c.loop-member.invariant
    (weight_le c.args.group.now c.loop-member.member-index (record { scenario = 0; weight = 0 })
    c.loop-member-test.true c.requires.weights) c.weigh-sum.ensures.small
