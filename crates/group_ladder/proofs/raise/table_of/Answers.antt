use Rattle.std.proofs.Common.{arith}
use Rattle.refined_prices.specs.RefinedWorth.{refined_price, refined_constant, refined_pricing}
use Rattle.lagrange_bound.proofs.RowLemmas.{items_of}
use Rattle.lagrange_bound.proofs.TableLemmas.{row_count, rows_small, constant_back}
use Rattle.group_ladder.proofs.raise.table_of.Goals as goal

pub from_rows-requires-clause-few : goal.from_rows-requires-clause-few
from_rows-requires-clause-few c =
    let count = row_count (refined_price c.args.inst.now c.args.list.now) c.args.inst.now c.in_ok-rows.rows.items
    c.in_ok-rows.ensures.rows in
    let few = c.fits.ensures.names.few in
    omega (arith, count, few)

pub from_rows-requires-clause-prices : goal.from_rows-requires-clause-prices
from_rows-requires-clause-prices c =
    rows_small (refined_price c.args.inst.now c.args.list.now) c.args.inst.now (items_of c.in_ok-rows.rows.items)
    (λ i s l a. c.refined_prices_are_small.ensures.prices c.args.inst.now c.args.list.now i s c.fits.ensures c.requires
    l a) c.in_ok-rows.ensures.rows

pub from_rows-requires-clause-fixed : goal.from_rows-requires-clause-fixed
from_rows-requires-clause-fixed c =
    let small = c.refined_prices_are_small.ensures.constants c.args.inst.now c.args.list.now c.fits.ensures
    c.requires in
    (constant_back c.in_ok-rows.constant (refined_constant c.args.inst.now c.args.list.now)
    c.in_ok-rows.ensures.constant (omega (arith, small))).1

pub returns : goal.returns
returns c =
    let small = c.refined_prices_are_small.ensures.constants c.args.inst.now c.args.list.now c.fits.ensures
    c.requires in
    c.from_rows.ensures.pricing c.args.inst.now (refined_pricing c.args.inst.now c.args.list.now)
    c.in_ok-rows.ensures.rows
    ((constant_back c.in_ok-rows.constant (refined_constant c.args.inst.now
    c.args.list.now) c.in_ok-rows.ensures.constant (omega (arith, small))).0)
