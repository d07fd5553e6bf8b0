-- What holds of the arrays of the first phase. Cited by private functions only: no part of any promise.
use Rattle.std.specs.Prelude.{◌≡◌, ℕ, ◌*◌, ◌<◌, List, length, All}
use Rattle.instance_model.specs.Tables.{Tables}
use Rattle.instance_model.specs.Plans.{AreAllowedStarts}
use Rattle.lagrange_bound.specs.Changes.{IsExPlace}
use Rattle.price_ladder.specs.declared.work.Work.{Work}
use Rattle.price_ladder.specs.declared.spot.Spot.{Spot}

-- how many places there are by intervention, then start or period
abbrev pub start_count : Tables → ℕ
start_count inst = length inst.names * inst.periods

-- how many there are by resource, then period
abbrev pub band_count : Tables → ℕ
band_count inst = length inst.resource_names * inst.periods

-- a workload of one of so many starts on one of so many bands
pub record IsWork (starts bands : ℕ) (work : Work) : Type 0 where
  pub start : work.start < starts
  pub band : work.band < bands

-- workloads of an instance
abbrev pub AreWorks : Tables → List Work → Type 0
AreWorks inst works = All (IsWork (start_count inst) (band_count inst)) works

-- both interventions stand among so many places
pub record IsWithin (places : ℕ) (spot : Spot) : Type 0 where
  pub first : spot.first < places
  pub second : spot.second < places

-- an exclusion of the instance in a period of its season
pub record IsSpot (inst : Tables) (spot : Spot) : Type 0 where
  pub place : IsExPlace inst spot.exclusion spot.period
  pub within : IsWithin (start_count inst) spot

-- such exclusions
abbrev pub AreSpots : Tables → List Spot → Type 0
AreSpots inst spots = All (IsSpot inst) spots

-- each array is as long as it should be, and what they name is there
pub record IsAscent (inst : Tables) (bases : ℕ) (works : List Work) (bands : ℕ) (spots : List Spot)
    (charges burdens entries : ℕ) (choice : List ℕ) (chosen busy : ℕ) : Type 0 where
  pub each_base : bases ≡ start_count inst
  pub each_work : AreWorks inst works
  pub each_band : bands ≡ band_count inst
  pub each_spot : AreSpots inst spots
  pub each_charge : charges ≡ length spots
  pub each_burden : burdens ≡ start_count inst
  pub each_entry : entries ≡ start_count inst
  pub each_choice : AreAllowedStarts inst choice
  pub each_chosen : chosen ≡ start_count inst
  pub each_busy : busy ≡ start_count inst
