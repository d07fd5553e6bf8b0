-- What it is to have tried steps of a kind on a list. Cited by private functions only: no part of any promise.
use Rattle.std.specs.Prelude.{◌≡◌, ℕ, ◌+◌, ◌-◌, ◌≤◌, ◌⊎◌, ℤ, ◌<ℤ◌, ◌≤ℤ◌, Bool, true, false, List}
use Rattle.instance_model.specs.Tables.{Tables}
use Rattle.lagrange_bound.specs.Prices.{PriceList, IsPriceList}
use Rattle.lagrange_bound.specs.Changes.{IsBandPlace, IsExPlace}
use Rattle.price_ladder.specs.declared.place.Place.{Place}
use Rattle.price_ladder.specs.declared.place.Place.TheVariants.{Upper, Lower, Excluded}
use Rattle.price_ladder.specs.Places.{value_at, IsWithValue}
use Rattle.price_ladder.specs.Steps.{IsStepAt, IsTailStep}
use Rattle.price_ladder.specs.Raised.{root_worth}

-- a step of the kind led to new, whose worth is at least the target
pub record IsTaken (inst : Tables) (target : ℤ) (kind : PriceList → Type 0) (new : PriceList) : Type 0 where
  pub step : kind new
  pub in_range : IsPriceList inst new
  pub reached : target ≤ℤ root_worth inst new

-- no step of the kind leads to a worth of at least the target
pub record NoneReaches (inst : Tables) (target : ℤ) (kind : PriceList → Type 0) : Type 0 where
  pub none : (new : PriceList) → IsPriceList inst new → kind new → root_worth inst new <ℤ target

-- a step of the kind was taken from old to new, or none reaches the target and the list is as it was
abbrev pub IsTried : Tables → PriceList → PriceList → ℤ → (PriceList → Type 0) → Bool → Type 0
IsTried inst old new target kind true = IsTaken inst target kind new
IsTried inst old new target kind false = (new ≡ old) × NoneReaches inst target kind

-- ---- kinds of steps

-- the number at a place gets greater by a size, in the range of prices
pub record IsMoreBy (inst : Tables) (place : Place) (size : ℕ) (old new : PriceList) : Type 0 where
  pub small : value_at inst old place + size ≤ 1_000_000_000
  pub changed : IsWithValue inst old new place (value_at inst old place + size)

-- it gets less by a size
pub record IsLessBy (inst : Tables) (place : Place) (size : ℕ) (old new : PriceList) : Type 0 where
  pub enough : size ≤ value_at inst old place
  pub small : value_at inst old place - size ≤ 1_000_000_000
  pub changed : IsWithValue inst old new place (value_at inst old place - size)

-- one or the other
abbrev pub IsChangedBy : Tables → Place → ℕ → PriceList → PriceList → Type 0
IsChangedBy inst place size old new = IsMoreBy inst place size old new ⊎ IsLessBy inst place size old new

-- a step at one of these places
pub record IsStepAmong (inst : Tables) (among : Place → Type 0) (old new : PriceList) : Type 0 where
  pub place : Place
  pub member : among place
  pub step : IsStepAt inst old place new

-- a step of the tail of some period
pub record IsAnyTailStep (inst : Tables) (starts : List ℕ) (old new : PriceList) : Type 0 where
  pub period : ℕ
  pub from : 1 ≤ period
  pub to : period ≤ inst.periods
  pub step : IsTailStep inst starts old period new

-- ---- sets of places

-- the two limits of resource c in period t
abbrev pub IsLimitIn : ℕ → ℕ → Place → Type 0
IsLimitIn c t (Upper d u) = (d ≡ c) × (u ≡ t)
IsLimitIn c t (Lower d u) = (d ≡ c) × (u ≡ t)
IsLimitIn c t (Excluded e u) = ⊥

-- the limits of resource c
abbrev pub IsLimitOf : Tables → ℕ → Place → Type 0
IsLimitOf inst c (Upper d u) = (d ≡ c) × IsBandPlace inst d u
IsLimitOf inst c (Lower d u) = (d ≡ c) × IsBandPlace inst d u
IsLimitOf inst c (Excluded e u) = ⊥

-- all limits
abbrev pub IsLimit : Tables → Place → Type 0
IsLimit inst (Upper d u) = IsBandPlace inst d u
IsLimit inst (Lower d u) = IsBandPlace inst d u
IsLimit inst (Excluded e u) = ⊥

-- exclusion e in period t
abbrev pub IsExcludedIn : Tables → ℕ → ℕ → Place → Type 0
IsExcludedIn inst e t (Upper d u) = ⊥
IsExcludedIn inst e t (Lower d u) = ⊥
IsExcludedIn inst e t (Excluded d u) = (d ≡ e) × (u ≡ t) × IsExPlace inst d u

-- exclusion e in the periods of its season
abbrev pub IsExcludedOf : Tables → ℕ → Place → Type 0
IsExcludedOf inst e (Upper d u) = ⊥
IsExcludedOf inst e (Lower d u) = ⊥
IsExcludedOf inst e (Excluded d u) = (d ≡ e) × IsExPlace inst d u

-- all exclusions
abbrev pub IsExcluded : Tables → Place → Type 0
IsExcluded inst (Upper d u) = ⊥
IsExcluded inst (Lower d u) = ⊥
IsExcluded inst (Excluded d u) = IsExPlace inst d u
