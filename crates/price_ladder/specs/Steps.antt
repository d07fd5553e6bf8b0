-- Ladder steps: a price list is changed in one place, by a power of ten, or by the tail of a plan.
use Rattle.std.specs.Prelude.{◌≡◌, ℕ, ◌+◌, ◌^◌, ◌≤◌, ◌⊎◌, List, Some, None}
use Rattle.instance_model.specs.Tables.{Tables}
use Rattle.lagrange_bound.specs.Prices.{PriceList, tail_of}
use Rattle.lagrange_bound.specs.Changes.{with_tail}
use Rattle.price_ladder.specs.declared.place.Place.{Place}
use Rattle.price_ladder.specs.Places.{IsPlace, value_at, IsWithValue}
use Rattle.price_ladder.specs.Tails.{plan_tail}

-- v is u with a power of ten from 10^0 to 10^8 added or taken off, in the range of prices
pub record IsPriceStep (u v : ℕ) : Type 0 where
  pub exponent : ℕ
  pub few : exponent ≤ 8
  pub changed : (v ≡ u + 10 ^ exponent) ⊎ (u ≡ v + 10 ^ exponent)
  pub small : v ≤ 1_000_000_000

-- new is old with such a step at a place
pub record IsStepAt (inst : Tables) (old : PriceList) (place : Place) (new : PriceList) : Type 0 where
  pub value : ℕ
  pub step : IsPriceStep (value_at inst old place) value
  pub changed : IsWithValue inst old new place value

-- new is old with the tail of the plan in period t in place of none, or the other way round; where old
-- has another tail there, there is no such step
abbrev pub IsTailStep : Tables → List ℕ → PriceList → ℕ → PriceList → Type 0
IsTailStep inst starts old t new =
    ((tail_of old t ≡ None) × (new ≡ with_tail old t (Some (plan_tail inst starts t))))
    ⊎ ((tail_of old t ≡ Some (plan_tail inst starts t)) × (new ≡ with_tail old t None))

-- a ladder step for a plan, given by its starts, leads from old to new
pub data IsLadderStep (inst : Tables) (starts : List ℕ) (old new : PriceList) : Type 0 where
  of_number : (place : Place) → IsPlace inst place → IsStepAt inst old place new → IsLadderStep inst starts old new
  of_tail : (t : ℕ) → 1 ≤ t → t ≤ inst.periods → IsTailStep inst starts old t new → IsLadderStep inst starts old new
