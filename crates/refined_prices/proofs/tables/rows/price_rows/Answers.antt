use Rattle.lagrange_bound.proofs.RowLemmas.{rows_more}
use Rattle.refined_prices.specs.tables.RefinedRows.{refined_row}
use Rattle.refined_prices.proofs.tables.rows.price_rows.Goals as goal

pub loop-i-preserved : goal.loop-i-preserved
loop-i-preserved c = rows_more (refined_row c.args.inst.now c.args.list.now) c.loop-i.i c.loop-i.rows.items
    c.push.new.self.items c.in_ok-refined_row.field-0 c.loop-i.invariant c.in_ok-refined_row.ensures
    c.in_ok-push.ensures.items
