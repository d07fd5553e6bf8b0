use Rattle.std.proofs.Common.{◌∙◌, ◌+◌, sym, ap, arith, length, get_or}
use Rattle.std.proofs.lemmas.List.Sums.{sum_by_more}
use Rattle.lagrange_bound.proofs.ExCountLemmas.{ex_few}
use Rattle.lagrange_bound.proofs.LimitLemmas.{ex_total_all, price_small}
use Rattle.price_ladder.proofs.budget.exclusion_total.Goals as goal

pub overflow_add-total : goal.overflow_add-total
overflow_add-total c =
    let few = ex_few c.args.inst.now c.args.prices.now c.fits.ensures c.requires in
    let each = ap length c.ex_prices-x-items.ensures in
    let one = price_small c.args.inst.now c.args.prices.now c.ex_prices-x-items.result.now c.loop-x.x-index
    (record { exclusion = 0; period = 0; value = 0 }) c.requires c.ex_prices-x-items.ensures (omega arith) in
    omega (arith, few, each, one)

pub loop-x-preserved : goal.loop-x-preserved
loop-x-preserved c =
    let one = price_small c.args.inst.now c.args.prices.now c.ex_prices-x-items.result.now c.loop-x.x-index
    (record { exclusion = 0; period = 0; value = 0 }) c.requires c.ex_prices-x-items.ensures (omega arith) in
    record {
      value =
          ap (λ n. n
          + (get_or c.ex_prices-x-items.result.now c.loop-x.x-index
          (record { exclusion = 0; period = 0; value = 0 })).value) c.loop-x.invariant.value
          ∙ sym (sum_by_more (λ x. x.value) c.ex_prices-x-items.result.now c.loop-x.x-index
          (record { exclusion = 0; period = 0; value = 0 }) (omega arith));
      small = omega (arith, one, c.loop-x.invariant.small);
    }

pub returns-clause-value : goal.returns-clause-value
returns-clause-value c =
    ex_total_all c.ex_prices-x-items.result.now c.args.prices.now.ex c.loop-x.x-index c.loop-x.total
    c.loop-x.invariant.value (omega arith) c.ex_prices-x-items.ensures

pub returns-clause-small : goal.returns-clause-small
returns-clause-small c =
    let few = ex_few c.args.inst.now c.args.prices.now c.fits.ensures c.requires in
    let each = ap length c.ex_prices-x-items.ensures in
    omega (arith, few, each)
