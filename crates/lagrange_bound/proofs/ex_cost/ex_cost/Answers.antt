use Rattle.std.proofs.Common.{◌∙◌, ap, arith, List, length}
use Rattle.lagrange_bound.specs.declared.ex_price.ExPrice.{ExPrice}
use Rattle.lagrange_bound.specs.Worth.{ex_part}
use Rattle.lagrange_bound.proofs.ExCountLemmas.{ex_few, ex_sum_all}
use Rattle.lagrange_bound.proofs.ex_cost.ex_cost.Goals as goal

pub overflow_add-cost : goal.overflow_add-cost
overflow_add-cost c =
    let few = ex_few c.args.inst.now c.args.prices.now c.fits.ensures c.requires.prices in
    let each = ap length c.ex_prices-x-items.ensures in
    omega (arith, few, each, c.ex_cost_of-cost.ensures.small)

pub returns-clause-value : goal.returns-clause-value
returns-clause-value c =
    ex_sum_all c.args.inst.now c.ex_prices-x-items.result.now c.args.i c.args.s c.loop-x.x-index c.loop-x.cost
    c.loop-x.invariant.value (omega arith)
    ∙ ap (λ (xs : List ExPrice). ex_part c.args.inst.now xs c.args.i c.args.s) c.ex_prices-x-items.ensures

pub returns-clause-small : goal.returns-clause-small
returns-clause-small c =
    let few = ex_few c.args.inst.now c.args.prices.now c.fits.ensures c.requires.prices in
    let each = ap length c.ex_prices-x-items.ensures in
    omega (arith, few, each)
