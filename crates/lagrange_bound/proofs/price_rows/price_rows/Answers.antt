use Rattle.lagrange_bound.specs.Tabulated.{price_row}
use Rattle.lagrange_bound.proofs.RowLemmas.{rows_more, AllRowsSmall-more}
use Rattle.lagrange_bound.proofs.price_rows.price_rows.Goals as goal

pub loop-i-preserved : goal.loop-i-preserved
loop-i-preserved g c = record {
  value = rows_more (price_row (g.G.Goal.base_gives c.args.goal.now c.args.inst.now c.args.prices.now) c.args.inst.now
      c.args.prices.now) c.loop-i.i c.loop-i.rows.items c.push.new.self.items c.in_ok-price_row.field-0
      c.loop-i.invariant.value c.in_ok-price_row.ensures.value c.in_ok-push.ensures.items;
  small = AllRowsSmall-more c.loop-i.rows.items c.push.new.self.items c.in_ok-price_row.field-0 c.loop-i.invariant.small
      c.in_ok-price_row.ensures.small c.in_ok-push.ensures.items;
}
