use Rattle.std.proofs.Common.{◌∙◌, arith, refl}
use Rattle.lagrange_bound.specs.Worth.{price_of}
use Rattle.lagrange_bound.specs.Pricings.{pricing_of}
use Rattle.lagrange_bound.proofs.TableLemmas.{row_count, constant_back, table_is, worth_is_by}
use Rattle.lagrange_bound.proofs.table.tabulate.Goals as goal

pub from_rows-requires-clause-few : goal.from_rows-requires-clause-few
from_rows-requires-clause-few g c =
    let count = row_count
    (price_of (g.G.Goal.base_gives c.args.goal.now c.args.inst.now c.args.prices.now) c.args.inst.now c.args.prices.now)
    c.args.inst.now c.in_ok-rows.rows.items c.in_ok-rows.ensures.value in
    let few = c.fits.ensures.names.few in
    omega (arith, count, few)

pub from_rows-requires-clause-fixed : goal.from_rows-requires-clause-fixed
from_rows-requires-clause-fixed g c =
    (constant_back c.fixed_cost.result c.fixed_cost.result refl c.fixed_cost.ensures.small).1

pub returns-clause-value : goal.returns-clause-value
returns-clause-value g c =
    let back = (constant_back c.fixed_cost.result c.fixed_cost.result refl c.fixed_cost.ensures.small).0 in
    table_is (g.G.Goal.base_gives c.args.goal.now c.args.inst.now c.args.prices.now) c.args.inst.now c.args.prices.now
    c.from_rows.result (c.from_rows.ensures.rows ∙ c.in_ok-rows.ensures.value)
    (c.from_rows.ensures.fixed ∙ back ∙ c.fixed_cost.ensures.value)

pub returns-clause-boxes : goal.returns-clause-boxes
returns-clause-boxes g c =
    let back = (constant_back c.fixed_cost.result c.fixed_cost.result refl c.fixed_cost.ensures.small).0 in
    (c.from_rows.ensures.pricing c.args.inst.now
    (pricing_of (g.G.Goal.base_gives c.args.goal.now c.args.inst.now c.args.prices.now) c.args.inst.now
    c.args.prices.now) c.in_ok-rows.ensures.value (back ∙ c.fixed_cost.ensures.value)).boxes

pub returns-clause-worths : goal.returns-clause-worths
returns-clause-worths g c =
    let back = (constant_back c.fixed_cost.result c.fixed_cost.result refl c.fixed_cost.ensures.small).0 in
    λ box h starts.
    (c.from_rows.ensures.pricing c.args.inst.now
    (pricing_of (g.G.Goal.base_gives c.args.goal.now c.args.inst.now c.args.prices.now) c.args.inst.now
    c.args.prices.now) c.in_ok-rows.ensures.value (back ∙ c.fixed_cost.ensures.value)).worths box h starts
    ∙ worth_is_by (g.G.Goal.base_gives c.args.goal.now c.args.inst.now c.args.prices.now) c.args.inst.now
    c.args.prices.now box
