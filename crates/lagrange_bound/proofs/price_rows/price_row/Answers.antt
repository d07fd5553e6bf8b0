use Rattle.std.proofs.Common.{arith, refl, subst, sym}
use Rattle.lagrange_bound.specs.ExSums.{AreExBefore}
use Rattle.lagrange_bound.specs.Tabulated.{price_entry}
use Rattle.lagrange_bound.proofs.RowLemmas.{prefix_small, AreExBefore-from, row_more, AllSmall-more}
use Rattle.lagrange_bound.proofs.price_rows.price_row.Goals as goal

pub prefix_sums-requires-clause-small : goal.prefix_sums-requires-clause-small
prefix_sums-requires-clause-small g c = λ t few.
    prefix_small c.args.inst.now c.args.prices.now c.args.sums.now c.args.i c.periods-periods.result t c.fits.ensures
    c.requires.prices c.requires.sums c.requires.number c.periods-periods.ensures.value few

pub entry-requires-clause-before : goal.entry-requires-clause-before
entry-requires-clause-before g c =
    subst (AreExBefore c.args.inst.now c.args.prices.now.ex c.args.i) (sym c.as_slice.ensures.value)
    (AreExBefore-from c.args.inst.now c.args.prices.now c.args.sums.now c.in_ok-before.before.items c.args.i _
    c.periods-periods.result c.requires.prices c.requires.sums c.requires.number c.periods-periods.ensures.value
    refl c.in_ok-before.ensures)

pub loop-s-preserved : goal.loop-s-preserved
loop-s-preserved g c = record {
  value = row_more (price_entry (g.G.Goal.base_gives c.args.goal.now c.args.inst.now c.args.prices.now) c.args.inst.now
      c.args.prices.now c.args.i) c.loop-s.s c.loop-s.row.items c.push.new.self.items c.entry.result (omega arith)
      c.loop-s.invariant.value c.entry.ensures.value c.in_ok-push.ensures.items;
  small = AllSmall-more c.loop-s.row.items c.push.new.self.items c.entry.result c.loop-s.invariant.small
      c.entry.ensures.small c.in_ok-push.ensures.items;
}
