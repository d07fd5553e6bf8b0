use Rattle.certificate_tree.proofs.TableLemmas.{first_table, next_table}
use Rattle.refined_check.specs.Worths.{refined_worths}
use Rattle.refined_check.proofs.TableLemmas.{zero_worths, list_worths}
use Rattle.refined_check.proofs.tables.refined_tables_of.Goals as goal

pub loop-list-init : goal.loop-list-init
loop-list-init c =
    let inst = c.args.inst.now in
    let lists = c.args.lists.now in
    first_table inst (refined_worths inst lists) c.new-tables.result.items c.push.new.self.items
    c.in_ok-tabulate.field-0 c.new-tables.ensures.items c.in_ok-push.ensures.items c.in_ok-tabulate.ensures.boxes
    (zero_worths inst lists c.in_ok-zero.zero c.in_ok-tabulate.field-0 c.in_ok-zero.ensures.value
    c.in_ok-tabulate.ensures.worths)

pub loop-list-preserved : goal.loop-list-preserved
loop-list-preserved c =
    let inst = c.args.inst.now in
    let lists = c.args.lists.now in
    let n = c.loop-list.list-index in
    let t = c.in_ok-refined_table.ensures.worths in
    next_table inst (refined_worths inst lists) n c.loop-list.tables.items c.push-in-loop-list.new.self.items
    c.in_ok-refined_table.field-0 c.loop-list.invariant c.in_ok-push-2.ensures.items t.boxes
    (list_worths inst lists n c.list-item.result c.in_ok-refined_table.field-0 c.loop-list-test.true c.list-item.is t)
