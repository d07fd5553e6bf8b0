-- The tables of a search, over all boxes and over one, and the two of them that its split is chosen by. Cited by
-- private functions only: no part of any promise.
use Rattle.std.specs.Prelude.{◌<◌, ◌≤◌, List, length, All, IfSome}
use Rattle.instance_model.specs.Tables.{Tables}
use Rattle.lagrange_bound.specs.declared.span.Span.{Span}
use Rattle.lagrange_bound.specs.Tabulated.{PriceRows, IsPricedBox}
use Rattle.lagrange_bound.specs.PricedTables.{IsPricedTable}
use Rattle.branch_search.specs.declared.choosing.leading.Leading.{Leading}

-- from 1 to 17 tables, each with a price for each interval of a box of the instance with starts
pub record AreSearchTables (inst : Tables) (tables : List PriceRows) : Type 0 where
  pub some : 0 < length tables
  pub few : length tables ≤ 17
  pub priced : All (IsPricedTable inst) tables

-- so many tables, each with a price for each interval of a box
pub record ArePricedOver (box : List Span) (tables : List PriceRows) : Type 0 where
  pub some : 0 < length tables
  pub few : length tables ≤ 17
  pub priced : All (λ table. IsPricedBox table box) tables

-- the same of those that its split is chosen by
pub record IsLeadingOver (box : List Span) (leading : Leading) : Type 0 where
  pub first : IsPricedBox leading.first.now box
  pub other : IfSome leading.other (λ table. IsPricedBox table.now box)
