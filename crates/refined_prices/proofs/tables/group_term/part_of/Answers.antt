use Rattle.std.proofs.Common.{◌∙◌, ◌+◌, ◌*◌, ◌<◌, ◌+ℤ◌, List, [], ap, arith, get_or, length, pos, refl, subst, sym}
use Rattle.fixed_num.proofs.Bits.{by_bits}
use Rattle.fixed_num.proofs.SignedLemmas.{back_from_abs}
use Rattle.instance_model.specs.RiskNumbers.{numbers_of}
use Rattle.refined_prices.specs.declared.member.Member.{Member}
use Rattle.refined_prices.specs.Groups.{weighted_sum, least_below, least_group}
use Rattle.refined_prices.specs.tables.GroupTerms.{risk_in, AreWeighable}
use Rattle.refined_prices.proofs.TablesRiskTermLemmas.{listed_part-none, listed_part-some, groups_weighable, seen_group}
use Rattle.refined_prices.proofs.tables.group_term.part_of.Goals as goal

pub returns-in_default-clause-value : goal.returns-in_default-clause-value
returns-in_default-clause-value c = listed_part-none (numbers_of c.args.risks)
    (λ g. get_or c.args.offsets.now (c.args.from + g) 0) (seen_group c.args.tail) (rw c.in_default.is refl)

pub least_sum-least-requires-clause-groups : goal.least_sum-least-requires-clause-groups
least_sum-least-requires-clause-groups c = λ k d l.
    subst (λ (xs : List (List Member)). k < length xs → AreWeighable (numbers_of c.args.risks) (get_or xs k d))
    (sym c.as_slice.ensures)
    (groups_weighable c.args.n c.args.rank c.in-Some.tail.now (numbers_of c.args.risks)
    (c.requires.tail c.in-Some.tail c.in-Some.is) c.requires.each k d) l

pub returns-clause-value : goal.returns-clause-value
unfolding least_group
returns-clause-value c =
    let bl = back_from_abs c.least_sum-least.result (omega (arith, c.least_sum-least.ensures.small)) in
    let bs = back_from_abs c.args.sum (omega (arith, c.requires.small)) in
    let b = back_from_abs c.gap_of.result (omega (arith, c.gap_of.ensures.small)) in
    b ∙ listed_part-some c.args.n (numbers_of c.args.risks) (λ g. get_or c.args.offsets.now (c.args.from + g) 0)
    (seen_group c.args.tail) c.in-Some.tail.now (by_bits c.least_sum-least.result) (by_bits c.args.sum)
    c.gap_of.result (rw c.in-Some.is refl) c.requires.each
    (bl ∙ c.least_sum-least.ensures.value
    ∙ ap (λ (gs : List (List Member)). least_below (length gs)
    (λ g. weighted_sum (risk_in (numbers_of c.args.risks)) (get_or gs g [])
    +ℤ pos (1_000_000_000_000 * get_or c.args.offsets.now (c.args.from + g) 0))) c.as_slice.ensures)
    (bs ∙ c.requires.sum) c.gap_of.ensures.value
