use Rattle.std.proofs.Common.{◌∙◌, ◌≤◌, sym, subst, List, length}
use Rattle.std.specs.Prelude.{option_map}
use Rattle.lagrange_bound.specs.Prices.{PriceList, IsPriceList}
use Rattle.lagrange_bound.specs.Tabulated.{PriceRows}
use Rattle.lagrange_bound.specs.Worth.{price_total}
use Rattle.certificate_tree.specs.Holding.{worth_by}
use Rattle.certificate_tree.specs.PriceTables.{AreTables}
use Rattle.branch_search.proofs.StateLemmas.{searched_by_lists, answer_in_range, lists_known}
use Rattle.branch_search.proofs.RangeLemmas.{seen, lent, bound_in_range}
use Rattle.branch_search.proofs.searching.search.Goals as goal

pub search_by-requires-clause-priced : goal.search_by-requires-clause-priced
search_by-requires-clause-priced g c =
    (subst (λ (ts : List PriceRows). AreTables (g.G.Goal.base_gives c.args.goal.now) c.args.inst.now
    c.as_slice.result.now ts) (sym c.as_slice-2.ensures.value) c.in_ok-tables.ensures).priced

pub search_by-requires-clause-lawful : goal.search_by-requires-clause-lawful
search_by-requires-clause-lawful g c =
    let base = g.G.Goal.base_gives c.args.goal.now in
    let inst = c.args.inst.now in
    let lists = c.as_slice.result.now in
    let known = lists_known inst (seen c.args.prices) lists (lent (IsPriceList inst) c.args.prices c.requires.prices)
    (c.as_slice.ensures.value ∙ c.in_ok-lists.ensures) in
    c.tables_bound_boxes.ensures (g.G.Goal.value_gives c.args.goal.now) inst (length lists) (worth_by base inst lists)
    c.as_slice-2.result.now
    (subst (λ (ts : List PriceRows). AreTables base inst lists ts) (sym c.as_slice-2.ensures.value)
    c.in_ok-tables.ensures) (c.lists_bound_boxes.ensures inst lists c.fits.ensures known.1)

pub returns-clause-searched : goal.returns-clause-searched
returns-clause-searched g c =
    let base = g.G.Goal.base_gives c.args.goal.now in
    let inst = c.args.inst.now in
    searched_by_lists base (g.G.Goal.value_gives c.args.goal.now) inst (seen c.args.prices)
    (option_map (λ given. given.now) c.args.incumbent) c.args.turns c.from_vec.result c.as_slice-2.result.now
    c.in_ok-end.end c.fits.ensures
    (subst (λ (ls : List PriceList). AreTables base inst ls c.as_slice-2.result.now)
    (c.as_slice.ensures.value ∙ sym c.from_vec.ensures)
    (subst (λ (ts : List PriceRows). AreTables base inst c.as_slice.result.now ts) (sym c.as_slice-2.ensures.value)
    c.in_ok-tables.ensures)) (c.from_vec.ensures ∙ c.in_ok-lists.ensures) c.in_ok-end.ensures.gone_on

pub returns-clause-valid : goal.returns-clause-valid
returns-clause-valid g c =
    let s = (returns-clause-searched g c).by in record { tree = s.tree; of_nodes = s.of_nodes; holds = s.holds }

pub returns-clause-in_range : goal.returns-clause-in_range
returns-clause-in_range g c = λ b.
    answer_in_range (g.G.Goal.base_gives c.args.goal.now) (g.G.Goal.value_gives c.args.goal.now) c.args.inst.now
    (seen c.args.prices) (option_map (λ given. given.now) c.args.incumbent) c.args.turns _
    (lent (IsPriceList c.args.inst.now) c.args.prices c.requires.prices) (returns-clause-searched g c) b

pub returns-clause-small : goal.returns-clause-small
returns-clause-small g c = λ light.
    returns-clause-in_range g c
    (bound_in_range (g.G.Goal.base_gives c.args.goal.now) (g.G.Goal.value_gives c.args.goal.now) c.args.inst.now
    (seen c.args.prices) (option_map (λ given. given.now) c.args.incumbent) c.args.turns _
    c.fits.ensures c.worths_are_small.ensures.worths c.worths_are_small.ensures.values
    (lent (IsPriceList c.args.inst.now) c.args.prices c.requires.prices)
    (lent (λ given. price_total given ≤ 40_000_000_000) c.args.prices light) (returns-clause-searched g c))
