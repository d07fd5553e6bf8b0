use Rattle.std.proofs.Common.{◌∙◌, sym, ◌+◌}
use Rattle.certificate_tree.specs.Holding.{worth_by}
use Rattle.certificate_tree.proofs.TableLemmas.{list_zero, list_more, gives_by, first_table, next_table}
use Rattle.certificate_tree.proofs.price_tables.tables_of.Goals as goal

pub loop-prices-init : goal.loop-prices-init
loop-prices-init g c =
    let inst = c.args.inst.now in
    let lists = c.args.lists.now in
    let base = g.G.Goal.base_gives c.args.goal.now in
    first_table inst (worth_by base inst lists) c.new-tables.result.items c.push.new.self.items
    c.in_ok-tabulate.field-0 c.new-tables.ensures.items c.in_ok-push.ensures.items c.in_ok-tabulate.ensures.boxes
    (gives_by base inst lists 0 c.in_ok-zero.zero c.in_ok-tabulate.field-0
    (c.in_ok-zero.ensures.value ∙ sym (list_zero inst lists)) c.in_ok-tabulate.ensures.worths)

pub loop-prices-preserved : goal.loop-prices-preserved
loop-prices-preserved g c =
    let inst = c.args.inst.now in
    let lists = c.args.lists.now in
    let base = g.G.Goal.base_gives c.args.goal.now in
    let n = c.loop-prices.prices-index in
    next_table inst (worth_by base inst lists) n c.loop-prices.tables.items c.push-in-loop-prices.new.self.items
    c.in_ok-tabulate-2.field-0 c.loop-prices.invariant c.in_ok-push-2.ensures.items c.in_ok-tabulate-2.ensures.boxes
    (gives_by base inst lists (n + 1) c.prices-item.result c.in_ok-tabulate-2.field-0
    (list_more inst lists n c.prices-item.result c.loop-prices-test.true c.prices-item.is)
    c.in_ok-tabulate-2.ensures.worths)
