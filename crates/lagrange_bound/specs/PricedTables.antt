-- Which tables have a price for each interval of a box with starts, and which are those of a pricing.
use Rattle.std.specs.Prelude.{◌≡◌, List}
use Rattle.instance_model.specs.Tables.{Tables}
use Rattle.lagrange_bound.specs.declared.span.Span.{Span}
use Rattle.lagrange_bound.specs.Boxes.{IsBox, HasStarts}
use Rattle.lagrange_bound.specs.Pricings.{Pricing, pricing_worth}
use Rattle.lagrange_bound.specs.Tabulated.{PriceRows, IsPricedBox, worth_in}

-- the table has a price for each interval of a box of the instance with an allowed start in each interval
abbrev pub IsPricedTable : Tables → PriceRows → Type 0
IsPricedTable inst table = (box : List Span) → IsBox inst box → HasStarts inst box → IsPricedBox table box

-- and it gives the worth of that box by a pricing
pub record IsPricingTable (inst : Tables) (pricing : Pricing) (table : PriceRows) : Type 0 where
  pub boxes : IsPricedTable inst table
  pub worths : (box : List Span) → IsBox inst box → HasStarts inst box
      → worth_in table box ≡ pricing_worth inst pricing box
