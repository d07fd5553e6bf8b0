use Rattle.std.proofs.Common.{◌≡◌, ◌∙◌, ap, arith}
use Rattle.fixed_num.proofs.Bits.{by_bits}
use Rattle.fixed_num.proofs.SignedLemmas.{back_from_abs}
use Rattle.lagrange_bound.specs.Worth.{fixed_part}
use Rattle.refined_prices.specs.RefinedWorth.{refined_constant}
use Rattle.refined_prices.proofs.SizeLemmas.{RefinedConstantsAreSmall-from}
use Rattle.refined_prices.proofs.TablesOffsetSumLemmas.{constant_is}
use Rattle.refined_prices.proofs.tables.constant.constant_of.Goals as goal

pub returns : goal.returns
returns c =
    let is : c.constant_from.result ≡ refined_constant c.args.inst.now c.args.list.now =
    constant_is c.args.inst.now c.args.list.now (by_bits c.fixed_cost.result) c.constant_from.result
    c.clique_total.result c.in_ok-cost.cost
    (back_from_abs c.fixed_cost.result (omega (arith, c.fixed_cost.ensures.small)) ∙ c.fixed_cost.ensures.value
    ∙ ap (fixed_part c.args.inst.now) c.prices.ensures)
    c.clique_total.ensures.value c.in_ok-cost.ensures.value c.constant_from.ensures in
    ap by_bits is ∙ back_from_abs (refined_constant c.args.inst.now c.args.list.now)
    (omega (arith, RefinedConstantsAreSmall-from c.args.inst.now c.args.list.now c.fits.ensures c.requires.list))
