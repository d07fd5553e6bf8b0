-- How large prices and worths by a refined price list can be.
use Rattle.std.specs.Prelude.{ℕ, ◌+◌, ◌^◌, ◌<◌, ◌≤◌, List, length, IsTrue, unsigned_abs}
use Rattle.instance_model.specs.Tables.{Tables, is_allowed}
use Rattle.instance_model.specs.Fitting.{IsFitting}
use Rattle.lagrange_bound.specs.declared.span.Span.{Span}
use Rattle.lagrange_bound.specs.Worth.{price_total}
use Rattle.lagrange_bound.specs.Boxes.{HasStarts}
use Rattle.lagrange_bound.specs.Pricings.{pricing_worth}
use Rattle.refined_prices.specs.Cliques.{clique_total}
use Rattle.refined_prices.specs.RefinedLists.{RefinedList, IsRefinedList}
use Rattle.refined_prices.specs.RefinedWorth.{refined_price, refined_constant, refined_pricing}

-- the sum of all prices of a list, on limits, exclusions and cliques
unfoldable pub refined_total : RefinedList → ℕ
refined_total list = price_total list.prices + clique_total list.cliques

-- the price of an allowed start is small, whatever the list in range is
abbrev pub RefinedPricesAreSmall : Type 0
RefinedPricesAreSmall =
    (inst : Tables) (list : RefinedList) (i s : ℕ) → IsFitting inst → IsRefinedList inst list → i < length inst.names
    → IsTrue (is_allowed inst i s)
    → unsigned_abs (refined_price inst list i s) < 8_000_000_000_000_000_000_000_000_000_000_000

-- and so is the constant
abbrev pub RefinedConstantsAreSmall : Type 0
RefinedConstantsAreSmall =
    (inst : Tables) (list : RefinedList) → IsFitting inst → IsRefinedList inst list
    → unsigned_abs (refined_constant inst list) < 10 ^ 34

-- a box with an allowed start in each interval has a worth that 128 bits hold
abbrev pub RefinedWorthsFit : Type 0
RefinedWorthsFit =
    (inst : Tables) (list : RefinedList) (box : List Span) → IsFitting inst → IsRefinedList inst list
    → HasStarts inst box → unsigned_abs (pricing_worth inst (refined_pricing inst list) box) < 2 ^ 127

-- and where the prices of a list come to at most 4 * 10^10, one of at most 10^36 in absolute value
abbrev pub RefinedWorthsAreSmall : Type 0
RefinedWorthsAreSmall =
    (inst : Tables) (list : RefinedList) (box : List Span) → IsFitting inst → IsRefinedList inst list
    → refined_total list ≤ 40_000_000_000 → HasStarts inst box
    → unsigned_abs (pricing_worth inst (refined_pricing inst list) box) ≤ 10 ^ 36
