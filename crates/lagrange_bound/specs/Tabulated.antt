-- Prices as a table: one entry per intervention and start from 1 to tmax, and
-- what the prices add whatever the starts are.
use Rattle.std.specs.Prelude.{◌≡◌, ℕ, ◌+◌, ◌-◌, ◌<◌, ◌≤◌, ℤ, pos, ◌+ℤ◌, List, [], length, map, filter, Option, Some}
use Rattle.std.specs.Prelude.{None, is_some, unwrap_or, slice_index_or, if◌then◌else◌}
use Rattle.std.specs.List.{range_with_len}
use Rattle.fixed_num.specs.Sums.{sum_below}
use Rattle.instance_model.specs.Tables.{Tables, tmax, is_allowed}
use Rattle.lagrange_bound.specs.declared.span.Span.{Span}
use Rattle.lagrange_bound.specs.Least.{least_over}
use Rattle.lagrange_bound.specs.Prices.{PriceList}
use Rattle.lagrange_bound.specs.Boxes.{span_of}
use Rattle.lagrange_bound.specs.Worth.{price_of, fixed_part}

-- a table: by intervention, then start, the price or nothing where the start isn't allowed
pub record PriceRows : Type 0 where
  pub rows : List (List (Option ℤ))
  pub fixed : ℤ

-- the entries of intervention i
abbrev pub row_of : PriceRows → ℕ → List (Option ℤ)
row_of table i = slice_index_or table.rows i []

-- the entry of intervention i at start s
abbrev pub entry_of : PriceRows → ℕ → ℕ → Option ℤ
entry_of table i s = slice_index_or (row_of table i) (s - 1) None

-- the price of a start by a pricing, or nothing where it isn't allowed
abbrev pub entry_by : (ℕ → ℕ → ℤ) → Tables → ℕ → ℕ → Option ℤ
entry_by price inst i s = if is_allowed inst i s then Some (price i s) else None

-- the entries of an intervention by a pricing
abbrev pub row_by : (ℕ → ℕ → ℤ) → Tables → ℕ → List (Option ℤ)
row_by price inst i = map (entry_by price inst i) (range_with_len 1 (tmax inst i))

-- the entries of all interventions by a pricing
abbrev pub rows_by : (ℕ → ℕ → ℤ) → Tables → List (List (Option ℤ))
rows_by price inst = map (row_by price inst) (range_with_len 0 (length inst.names))

-- an entry by a price list
abbrev pub price_entry : (ℕ → ℕ → ℤ) → Tables → PriceList → ℕ → ℕ → Option ℤ
price_entry base inst prices = entry_by (price_of base inst prices) inst

-- the entries of an intervention by a price list
abbrev pub price_row : (ℕ → ℕ → ℤ) → Tables → PriceList → ℕ → List (Option ℤ)
price_row base inst prices = row_by (price_of base inst prices) inst

-- the table of these bases and prices
unfoldable pub table_of : (ℕ → ℕ → ℤ) → Tables → PriceList → PriceRows
table_of base inst prices =
    record { rows = rows_by (price_of base inst prices) inst; fixed = fixed_part inst prices }

-- the starts of an interval that have a price
unfoldable pub priced_in : PriceRows → ℕ → Span → List ℕ
priced_in table i span = filter (λ s. is_some (entry_of table i s)) (range_with_len span.from (span.to + 1 - span.from))

-- one interval for each row, each within the row and with a price
pub record IsPricedBox (table : PriceRows) (box : List Span) : Type 0 where
  pub each : length box ≡ length table.rows
  pub from : (i : ℕ) → i < length box → 1 ≤ (span_of box i).from
  pub to : (i : ℕ) → i < length box → (span_of box i).to ≤ length (row_of table i)
  pub priced : (i : ℕ) → i < length box → 0 < length (priced_in table i (span_of box i))

-- the least price of each interval, and the part that is fixed
unfoldable pub worth_in : PriceRows → List Span → ℤ
worth_in table box = sum_below (length table.rows) (λ i. least_over (λ s. unwrap_or (entry_of table i s) (pos 0))
    (priced_in table i (span_of box i))) +ℤ table.fixed
