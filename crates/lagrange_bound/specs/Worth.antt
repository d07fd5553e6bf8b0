-- The price of a start and the worth of a box, for bases by intervention and start.
use Rattle.std.specs.Prelude.{ℕ, ◌+◌, ◌*◌, ◌^◌, ◌≤◌, ℤ, pos, ◌+ℤ◌, ◌-ℤ◌, ◌*ℤ◌, ◌≤ℤ◌, List, [], ◌∷◌, length, Some, ◌==◌}
use Rattle.std.specs.Prelude.{if◌then◌else◌, sum, unsigned_abs}
use Rattle.fixed_num.specs.Sums.{sum_below}
use Rattle.instance_model.specs.declared.parts.Exclusion.{Exclusion}
use Rattle.instance_model.specs.Tables.{Tables, in_run, upper_of, lower_of, exclusion_of}
use Rattle.instance_model.specs.Plans.{load_at}
use Rattle.instance_model.specs.Fitting.{IsFitting}
use Rattle.lagrange_bound.specs.declared.ex_price.ExPrice.{ExPrice}
use Rattle.lagrange_bound.specs.declared.span.Span.{Span}
use Rattle.lagrange_bound.specs.Least.{least_over}
use Rattle.lagrange_bound.specs.Prices.{PriceList, IsPriceList, up_of, lo_of}
use Rattle.lagrange_bound.specs.Goals.{Bases, PlanValue}
use Rattle.lagrange_bound.specs.Boxes.{span_of, starts_in, HasStarts, IsPlanIn}

-- how often an exclusion names an intervention
abbrev pub times_named : Exclusion → ℕ → ℕ
times_named x i = (if x.first == i then 1 else 0) + (if x.second == i then 1 else 0)

-- what the price of an exclusion in a period adds at a start, in units of 10^12
unfoldable pub ex_share : Tables → ExPrice → ℕ → ℕ → ℕ
ex_share inst x i s = if in_run inst i s x.period then x.value * times_named (exclusion_of inst x.exclusion) i else 0

-- what all of them add
unfoldable pub ex_part : Tables → List ExPrice → ℕ → ℕ → ℕ
ex_part inst [] i s = 0
ex_part inst (x ∷ xs) i s = ex_share inst x i s + ex_part inst xs i s

-- their sum
unfoldable pub ex_total : List ExPrice → ℕ
ex_total [] = 0
ex_total (x ∷ xs) = x.value + ex_total xs

-- the sum of all numbers of a list
unfoldable pub price_total : PriceList → ℕ
price_total prices = sum prices.up + sum prices.lo + ex_total prices.ex

-- what the prices on the limits of resource c in period t add at a start
abbrev pub band_share : Tables → PriceList → ℕ → ℕ → ℕ → ℕ → ℤ
band_share inst prices i s c t =
    (pos (up_of inst prices c t) -ℤ pos (lo_of inst prices c t)) *ℤ load_at inst c t i (Some s)

-- what all of them add
unfoldable pub band_part : Tables → PriceList → ℕ → ℕ → ℤ
band_part inst prices i s =
    sum_below (length inst.resource_names) (λ c. sum_below inst.periods (λ u. band_share inst prices i s c (u + 1)))

-- the price of a start
unfoldable pub price_of : (ℕ → ℕ → ℤ) → Tables → PriceList → ℕ → ℕ → ℤ
price_of base inst prices i s =
    (base i s +ℤ band_part inst prices i s) +ℤ pos (1_000_000_000_000 * ex_part inst prices.ex i s)

-- what the limits of resource c in period t are worth
abbrev pub limit_share : Tables → PriceList → ℕ → ℕ → ℤ
limit_share inst prices c t =
    (pos (lo_of inst prices c t) *ℤ lower_of inst c t) -ℤ (pos (up_of inst prices c t) *ℤ upper_of inst c t)

-- what the prices add whatever the starts are
unfoldable pub fixed_part : Tables → PriceList → ℤ
fixed_part inst prices =
    sum_below (length inst.resource_names) (λ c. sum_below inst.periods (λ u. limit_share inst prices c (u + 1)))
    -ℤ pos (1_000_000_000_000 * ex_total prices.ex)

-- the worth of a box: the least price of each interval, and what the prices add whatever the starts are
unfoldable pub worth_of : (ℕ → ℕ → ℤ) → Tables → PriceList → List Span → ℤ
worth_of base inst prices box =
    sum_below (length inst.names) (λ i. least_over (price_of base inst prices i) (starts_in inst i (span_of box i)))
    +ℤ fixed_part inst prices

-- weak duality: no feasible plan in a box has a value below the worth of the box, whatever the prices are
abbrev pub WorthBoundsPlans : Bases → PlanValue → Type 0
WorthBoundsPlans base value =
    (inst : Tables) (prices : PriceList) (box : List Span) (starts : List ℕ) → IsFitting inst → IsPriceList inst prices
    → IsPlanIn inst box starts → worth_of (base inst prices) inst prices box ≤ℤ value inst starts

-- where the numbers of a list come to at most 4 * 10^10, a box with an allowed start in each interval is worth at most
-- 10^36 in absolute value
abbrev pub WorthsAreSmall : Bases → Type 0
WorthsAreSmall base =
    (inst : Tables) (prices : PriceList) (box : List Span) → IsFitting inst → IsPriceList inst prices
    → price_total prices ≤ 40_000_000_000 → HasStarts inst box
    → unsigned_abs (worth_of (base inst prices) inst prices box) ≤ 10 ^ 36
