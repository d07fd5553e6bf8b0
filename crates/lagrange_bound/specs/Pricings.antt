-- What a price list is to a tree of boxes: a price for each start of each intervention, and a constant. The prices of a
-- feasible plan's starts and the constant come to at most the plan's value, so no plan in a box has a value below the
-- worth of the box.
use Rattle.std.specs.Prelude.{◌≡◌, ℕ, ℤ, ◌+ℤ◌, ◌≤ℤ◌, List, length, map, Some, slice_index}
use Rattle.fixed_num.specs.Sums.{sum_below}
use Rattle.instance_model.specs.Tables.{Tables}
use Rattle.instance_model.specs.Fitting.{IsFitting}
use Rattle.instance_model.specs.Rules.{IsFeasible}
use Rattle.lagrange_bound.specs.declared.span.Span.{Span}
use Rattle.lagrange_bound.specs.Least.{least_over}
use Rattle.lagrange_bound.specs.Prices.{PriceList, IsPriceList}
use Rattle.lagrange_bound.specs.Goals.{Bases, PlanValue}
use Rattle.lagrange_bound.specs.Boxes.{span_of, starts_in, IsPlanIn}
use Rattle.lagrange_bound.specs.Worth.{price_of, fixed_part}

-- a price by intervention and start, and what is added whatever the starts are, in parts of 10^-18
pub record Pricing : Type 0 where
  pub price : ℕ → ℕ → ℤ
  pub constant : ℤ

-- that of a price list, for bases by intervention and start
abbrev pub pricing_of : (ℕ → ℕ → ℤ) → Tables → PriceList → Pricing
pricing_of base inst prices =
    record { price = price_of base inst prices; constant = fixed_part inst prices }

-- the worth of a box: the least price of each interval, and the constant
unfoldable pub pricing_worth : Tables → Pricing → List Span → ℤ
pricing_worth inst pricing box =
    sum_below (length inst.names) (λ i. least_over (pricing.price i) (starts_in inst i (span_of box i)))
    +ℤ pricing.constant

-- the prices of the starts of each feasible plan, and the constant, come to at most its value
abbrev pub IsLawful : PlanValue → Tables → Pricing → Type 0
IsLawful value inst pricing =
    (starts : List ℕ) → length starts ≡ length inst.names → IsFeasible inst (map Some starts)
    → (sum_below (length inst.names) (λ i. pricing.price i (slice_index starts i)) +ℤ pricing.constant)
    ≤ℤ value inst starts

-- ---- laws

-- that is so of each price list in range
abbrev pub PricesAreLawful : Bases → PlanValue → Type 0
PricesAreLawful base value =
    (inst : Tables) (prices : PriceList) → IsFitting inst → IsPriceList inst prices
    → IsLawful value inst (pricing_of (base inst prices) inst prices)

-- where it is so, no feasible plan in a box has a value below the worth of the box
abbrev pub LawfulWorthsBoundPlans : Type 0
LawfulWorthsBoundPlans =
    (value : PlanValue) (inst : Tables) (pricing : Pricing) (box : List Span) (starts : List ℕ)
    → IsLawful value inst pricing → IsPlanIn inst box starts → pricing_worth inst pricing box ≤ℤ value inst starts
