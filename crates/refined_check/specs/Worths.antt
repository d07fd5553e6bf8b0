-- The worths of boxes by the price lists of a certificate by refined price lists, and the tables that give them.
use Rattle.std.specs.Prelude.{ℕ, zero, suc, List, length, slice_index_or}
use Rattle.instance_model.specs.Tables.{Tables}
use Rattle.lagrange_bound.specs.Prices.{zero_list}
use Rattle.lagrange_bound.specs.Goals.{risk_base}
use Rattle.lagrange_bound.specs.Pricings.{Pricing, pricing_of, pricing_worth}
use Rattle.lagrange_bound.specs.Tabulated.{PriceRows}
use Rattle.certificate_tree.specs.Holding.{Worths}
use Rattle.certificate_tree.specs.PriceTables.{AreTablesOf}
use Rattle.refined_prices.specs.RefinedLists.{RefinedList, zero_refined}
use Rattle.refined_prices.specs.RefinedWorth.{refined_pricing}

-- the prices by list j of a certificate: list 0 is the list of zeros that certificates of any kind have, list 1 the
-- first refined one
unfoldable pub refined_pricing_at : Tables → List RefinedList → ℕ → Pricing
refined_pricing_at inst lists zero = pricing_of (risk_base inst (zero_list inst)) inst (zero_list inst)
refined_pricing_at inst lists (suc j) = refined_pricing inst (slice_index_or lists j (zero_refined inst))

-- the worths of boxes by these lists
abbrev pub refined_worths : Tables → List RefinedList → Worths
refined_worths inst lists box j = pricing_worth inst (refined_pricing_at inst lists j) box

-- the tables are those of list 0 and of each refined list
abbrev pub AreRefinedTables : Tables → List RefinedList → List PriceRows → Type 0
AreRefinedTables inst lists tables = AreTablesOf inst (length lists) (refined_worths inst lists) tables
