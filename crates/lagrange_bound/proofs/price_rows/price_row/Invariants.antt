use Rattle.std.proofs.Common.{◌≡◌, ℕ, ◌-◌, map, None, get_or}
use Rattle.std.specs.List.{range_with_len}
use Rattle.lagrange_bound.specs.Lesser.{IsSmallPrice}
use Rattle.lagrange_bound.specs.Tabulated.{price_entry}
use Rattle.lagrange_bound.proofs.price_rows.price_row.Given as goal

abbrev pub invariant-loop-s : goal.invariant-loop-s
invariant-loop-s g l = record {
  value : l.row.items ≡ map (price_entry (g.G.Goal.base_gives l.goal l.inst l.prices) l.inst l.prices l.i)
      (range_with_len 1 (l.s - 1));
  small : (k : ℕ) → IsSmallPrice (get_or l.row.items k None);
}
