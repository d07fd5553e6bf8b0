-- Tables whose sums stay small.
use Rattle.std.specs.Prelude.{ℕ, ◌<◌, ◌≤◌, ◌^◌, None, length, map, unsigned_abs, slice_index_or}
use Rattle.lagrange_bound.specs.declared.table.PriceTable.TheInside.{Inside}
use Rattle.lagrange_bound.specs.Tabulated.{PriceRows, row_of}
use Rattle.lagrange_bound.specs.Lesser.{IsSmallPrice}

-- a table as its rows and what the prices add whatever the starts are
abbrev pub view_of : Inside → PriceRows
view_of a = record { rows = map (λ row. row.items) a.rows.items; fixed = a.fixed }

-- at most 1,024 rows of small prices
pub record IsSmallTable (a : Inside) : Type 0 where
  pub few : length a.rows.items ≤ 1024
  pub prices : (i k : ℕ) → IsSmallPrice (slice_index_or (row_of (view_of a) i) k None)
  pub fixed : unsigned_abs a.fixed < 10 ^ 36
