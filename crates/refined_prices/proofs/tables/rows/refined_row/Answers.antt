use Rattle.std.proofs.Common.{arith}
use Rattle.lagrange_bound.proofs.RowLemmas.{row_more}
use Rattle.refined_prices.specs.tables.RefinedRows.{refined_entry}
use Rattle.refined_prices.proofs.tables.rows.refined_row.Goals as goal

pub loop-s-preserved : goal.loop-s-preserved
loop-s-preserved c = row_more (refined_entry c.args.inst.now c.args.list.now c.args.i) c.loop-s.s c.loop-s.row.items
    c.push.new.self.items c.entry.result (omega arith) c.loop-s.invariant c.entry.ensures c.in_ok-push.ensures.items
