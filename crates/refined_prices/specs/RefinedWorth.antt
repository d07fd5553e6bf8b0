-- The price of a start by a refined price list, what the list adds whatever the starts are, and the law of both.
use Rattle.std.specs.Prelude.{◌≡◌, ℕ, ◌+◌, ◌*◌, ℤ, pos, ◌+ℤ◌, ◌-ℤ◌, ◌*ℤ◌, ◌≤ℤ◌, List, length, map, Some, slice_index}
use Rattle.fixed_num.specs.Sums.{sum_below}
use Rattle.instance_model.specs.Tables.{Tables}
use Rattle.instance_model.specs.Fitting.{IsFitting}
use Rattle.instance_model.specs.Plans.{load_at}
use Rattle.instance_model.specs.Rules.{KeepsRules}
use Rattle.lagrange_bound.specs.Prices.{up_of, lo_of}
use Rattle.lagrange_bound.specs.Worth.{ex_part, fixed_part}
use Rattle.lagrange_bound.specs.Goals.{risk_value}
use Rattle.lagrange_bound.specs.Pricings.{Pricing, IsLawful}
use Rattle.refined_prices.specs.GroupBases.{group_base_of, offset_cost}
use Rattle.refined_prices.specs.Caps.{counted_load}
use Rattle.refined_prices.specs.Cliques.{clique_part, clique_total}
use Rattle.refined_prices.specs.RefinedLists.{RefinedList, IsRefinedList}

-- what the prices on the limits of resource c in period t add at a start: the load pays the price on the upper limit,
-- and the load that counts gets the one on the lower limit
abbrev pub counted_share : Tables → RefinedList → ℕ → ℕ → ℕ → ℕ → ℤ
counted_share inst list i s c t =
    (pos (up_of inst list.prices c t) *ℤ load_at inst c t i (Some s))
    -ℤ (pos (lo_of inst list.prices c t) *ℤ counted_load inst list.capped c t i (Some s))

-- what all of them add
unfoldable pub counted_part : Tables → RefinedList → ℕ → ℕ → ℤ
counted_part inst list i s =
    sum_below (length inst.resource_names) (λ c. sum_below inst.periods (λ u. counted_share inst list i s c (u + 1)))

-- what the prices on limits, exclusions and cliques add at a start
unfoldable pub limit_part : Tables → RefinedList → ℕ → ℕ → ℤ
limit_part inst list i s =
    counted_part inst list i s
    +ℤ pos (1_000_000_000_000 * (ex_part inst list.prices.ex i s + clique_part inst list.cliques i s))

-- what they add whatever the starts are: as without cliques, less the prices of the cliques
unfoldable pub limit_constant : Tables → RefinedList → ℤ
limit_constant inst list = fixed_part inst list.prices -ℤ pos (1_000_000_000_000 * clique_total list.cliques)

-- the price of a start: its base under the tails, and what the prices on limits, exclusions and cliques add
unfoldable pub refined_price : Tables → RefinedList → ℕ → ℕ → ℤ
refined_price inst list i s = group_base_of inst list.tails list.offsets i s +ℤ limit_part inst list i s

-- what the list adds whatever the starts are
unfoldable pub refined_constant : Tables → RefinedList → ℤ
refined_constant inst list = limit_constant inst list -ℤ pos (offset_cost inst list.tails list.offsets)

-- both together
abbrev pub refined_pricing : Tables → RefinedList → Pricing
refined_pricing inst list = record { price = refined_price inst list; constant = refined_constant inst list }

-- ---- laws

-- over a plan that keeps the rules the prices on limits, exclusions and cliques add nothing, or less
abbrev pub LimitsAddNothing : Type 0
LimitsAddNothing =
    (inst : Tables) (list : RefinedList) (starts : List ℕ) → IsFitting inst → IsRefinedList inst list
    → length starts ≡ length inst.names → KeepsRules inst (map Some starts)
    → (sum_below (length inst.names) (λ i. limit_part inst list i (slice_index starts i)) +ℤ limit_constant inst list)
    ≤ℤ pos 0

-- the prices of the starts of each feasible plan, and the constant, come to at most its score
abbrev pub RefinedListsAreLawful : Type 0
RefinedListsAreLawful =
    (inst : Tables) (list : RefinedList) → IsFitting inst → IsRefinedList inst list
    → IsLawful risk_value inst (refined_pricing inst list)
