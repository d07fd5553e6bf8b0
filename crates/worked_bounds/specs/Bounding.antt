-- Bounds on the scores of plans.
use Rattle.std.specs.Prelude.{◌≡◌, ℕ, ℤ, ◌≤ℤ◌, List, length, map, Some}
use Rattle.instance_model.specs.Tables.{Tables}
use Rattle.instance_model.specs.Rules.{IsFeasible}
use Rattle.instance_model.specs.Values.{score_of}
use Rattle.lagrange_bound.specs.Prices.{PriceList, IsPriceList}
use Rattle.price_ladder.specs.Raised.{root_worth, IsRaised}

-- no plan that breaks no rule has a score below the bound
pub record BoundsScores (inst : Tables) (bound : ℤ) : Type 0 where
  pub bounds : (starts : List ℕ) → length starts ≡ length inst.names → IsFeasible inst (map Some starts)
      → bound ≤ℤ score_of inst (map Some starts)

-- the bound is the worth of the box of all starts by a list in range that is raised for a plan of these starts
pub record IsRaisedWorth (inst : Tables) (starts : List ℕ) (bound : ℤ) : Type 0 where
  pub prices : PriceList
  pub in_range : IsPriceList inst prices
  pub raised : IsRaised inst starts prices
  pub worth : bound ≡ root_worth inst prices
