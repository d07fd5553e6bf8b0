use Rattle.std.proofs.Common.{◌≡◌, map}
use Rattle.std.specs.List.{range_with_len}
use Rattle.lagrange_bound.specs.Tabulated.{price_row}
use Rattle.lagrange_bound.proofs.RowLemmas.{items_of, AllRowsSmall}
use Rattle.lagrange_bound.proofs.price_rows.price_rows.Given as goal

abbrev pub invariant-loop-i : goal.invariant-loop-i
invariant-loop-i g l = record {
  value : items_of l.rows.items ≡ map (price_row (g.G.Goal.base_gives l.goal l.inst l.prices) l.inst l.prices)
      (range_with_len 0 l.i);
  small : AllRowsSmall (items_of l.rows.items);
}
