-- Raised price lists: those that no ladder step makes much better, or that are good enough.
use Rattle.std.specs.Prelude.{ℕ, ℤ, pos, ◌+ℤ◌, ◌-ℤ◌, ◌*ℤ◌, ◌<ℤ◌, ◌⊎◌, List, length}
use Rattle.fixed_num.specs.Floors.{floor_of}
use Rattle.fixed_num.specs.Sums.{sum_below}
use Rattle.instance_model.specs.Tables.{Tables}
use Rattle.lagrange_bound.specs.Least.{least_over}
use Rattle.lagrange_bound.specs.Prices.{PriceList, IsPriceList, zero_list}
use Rattle.lagrange_bound.specs.Goals.{risk_base}
use Rattle.lagrange_bound.specs.Boxes.{span_of, starts_in}
use Rattle.lagrange_bound.specs.Worth.{worth_of}
use Rattle.certificate_tree.specs.Trees.{root_box}
use Rattle.certificate_tree.specs.Loads.{greatest_over}
use Rattle.price_ladder.specs.Steps.{IsLadderStep}

-- the worth of the box of all starts
abbrev pub root_worth : Tables → PriceList → ℤ
root_worth inst prices = worth_of (risk_base inst prices) inst prices (root_box inst)

-- the allowed starts of an intervention
abbrev pub root_starts : Tables → ℕ → List ℕ
root_starts inst i = starts_in inst i (span_of (root_box inst) i)

-- the sum over the interventions of the least base by the list of zeros
unfoldable pub least_total : Tables → ℤ
least_total inst =
    sum_below (length inst.names) (λ i. least_over (risk_base inst (zero_list inst) i) (root_starts inst i))

-- the sum of the greatest ones
unfoldable pub greatest_total : Tables → ℤ
greatest_total inst =
    sum_below (length inst.names) (λ i. greatest_over (risk_base inst (zero_list inst) i) (root_starts inst i))

-- what a step has to gain at least to be taken: more than a 200th of the difference of the two
unfoldable pub least_gain : Tables → ℤ
least_gain inst = pos 1 +ℤ floor_of (greatest_total inst -ℤ least_total inst) 200

-- a worth above this is good enough
unfoldable pub enough_worth : Tables → ℤ
enough_worth inst = pos 2 *ℤ greatest_total inst -ℤ least_total inst

-- no ladder step takes the worth of the root to a target
pub record NoStepReaches (inst : Tables) (starts : List ℕ) (prices : PriceList) (target : ℤ) : Type 0 where
  pub none : (new : PriceList) → IsPriceList inst new → IsLadderStep inst starts prices new
      → root_worth inst new <ℤ target

-- a list is raised for a plan: no ladder step raises the worth of the root by the least
-- gain or more, or that worth is good enough
abbrev pub IsRaised : Tables → List ℕ → PriceList → Type 0
IsRaised inst starts prices = NoStepReaches inst starts prices (root_worth inst prices +ℤ least_gain inst)
    ⊎ (enough_worth inst <ℤ root_worth inst prices)
