use Rattle.std.proofs.Common.{◌≡◌, ◌∙◌, ◌+◌, ◌≤◌, arith, get_or, subst, unsigned_abs, Some}
use Rattle.fixed_num.proofs.SignedLemmas.{back_from_abs}
use Rattle.instance_model.specs.RiskNumbers.{numbers_of}
use Rattle.instance_model.specs.Tables.{scenarios_of, rank_of}
use Rattle.refined_prices.specs.declared.group_tail.GroupTail.{GroupTail}
use Rattle.refined_prices.specs.Groups.{IsGroupTail}
use Rattle.refined_prices.specs.GroupBases.{group_term_of}
use Rattle.refined_prices.proofs.TablesRiskTermLemmas.{seen_group, seen_group_some, group_term_is}
use Rattle.refined_prices.proofs.TablesRowLemmas.{group_term_small}
use Rattle.refined_prices.proofs.tables.group_term.group_term.Goals as goal

pub returns : goal.returns
returns g c =
    let ok : (x : GroupTail) → seen_group c.args.tail ≡ Some x
    → IsGroupTail (scenarios_of c.args.inst.now c.args.t) (rank_of c.args.inst.now c.args.t) x =
    λ x e. let w = seen_group_some c.args.tail x e in
    subst (IsGroupTail (scenarios_of c.args.inst.now c.args.t) (rank_of c.args.inst.now c.args.t)) w.2
    (c.requires.tail w.0 w.1) in
    let value : c.floor_div.result ≡ group_term_of c.args.inst.now (seen_group c.args.tail)
    (λ k. get_or c.args.offsets.now (c.args.from + k) 0) c.args.i c.args.s c.args.t =
    group_term_is c.args.inst.now (seen_group c.args.tail) (λ k. get_or c.args.offsets.now (c.args.from + k) 0)
    c.args.i c.args.s c.args.t c.alpha.result c.scenarios-n.result (numbers_of c.risks-risks.result)
    c.total_risk-sum.result c.part_of-part.result c.fraction_of-fraction.result c.floor_div.result
    c.alpha.ensures.value c.scenarios-n.ensures.value c.scenarios-n.ensures.few c.risks-risks.ensures.value ok
    c.total_risk-sum.ensures.value c.total_risk-sum.ensures.small c.part_of-part.ensures.value
    c.part_of-part.ensures.small c.fraction_of-fraction.ensures.value c.fraction_of-fraction.ensures.small
    c.floor_div.ensures in
    let small : unsigned_abs c.floor_div.result ≤ 301_000_000_000_000_000_000_000_000 =
    rw value (group_term_small c.args.inst.now (seen_group c.args.tail)
    (λ k. get_or c.args.offsets.now (c.args.from + k) 0) c.args.i c.args.s c.args.t c.fits.ensures c.requires.from
    c.requires.to c.requires.offsets.small ok) in
    let b = back_from_abs c.floor_div.result (omega (arith, small)) in
    record { value = b ∙ value; small = rw b (omega (arith, small)) }
