-- What holds of the arrays of the search. Cited by private functions only: no part of any promise.
use Rattle.std.specs.Prelude.{◌≡◌, ℕ, ◌+◌, ◌*◌, ◌<◌, ◌≤◌, List, length, All}
use Rattle.instance_model.specs.Tables.{Tables}
use Rattle.group_ladder.specs.declared.start.Start.{Start}
use Rattle.group_ladder.specs.declared.start.Range.{Range}
use Rattle.group_ladder.specs.declared.band.Work.{Work}
use Rattle.group_ladder.specs.declared.clique.Set.{Set}
use Rattle.group_ladder.specs.declared.clique.Spot.{Spot}

-- how many places there are by intervention, then period
abbrev pub period_count : Tables → ℕ
period_count inst = length inst.names * inst.periods

-- how many there are by resource, then period
abbrev pub band_count : Tables → ℕ
band_count inst = length inst.resource_names * inst.periods

-- a start that is in progress in periods of the instance alone
pub record IsStart (inst : Tables) (start : Start) : Type 0 where
  pub from : 1 ≤ start.begin
  pub to : start.past ≤ inst.periods + 1

-- such starts
abbrev pub AreStarts : Tables → List Start → Type 0
AreStarts inst starts = All (IsStart inst) starts

-- some of so many starts
pub record IsRange (starts : ℕ) (range : Range) : Type 0 where
  pub some : range.from < range.past
  pub within : range.past ≤ starts

-- a workload of one of so many starts on one of so many bands
pub record IsWork (starts bands : ℕ) (work : Work) : Type 0 where
  pub start : work.start < starts
  pub band : work.band < bands

-- workloads of so many starts of an instance
abbrev pub AreWorks : Tables → ℕ → List Work → Type 0
AreWorks inst starts works = All (IsWork starts (band_count inst)) works

-- numbers of interventions
abbrev pub AreNumbers : Tables → List ℕ → Type 0
AreNumbers inst members = All (λ i. i < length inst.names) members

-- interventions of an instance and one of its seasons
pub record IsSet (inst : Tables) (set : Set) : Type 0 where
  pub season : set.season < length inst.season_names
  pub members : AreNumbers inst set.members.items

-- such sets
abbrev pub AreSets : Tables → List Set → Type 0
AreSets inst sets = All (IsSet inst) sets

-- one of so many sets, in a period of the instance
pub record IsSpot (inst : Tables) (sets : ℕ) (spot : Spot) : Type 0 where
  pub set : spot.set < sets
  pub from : 1 ≤ spot.period
  pub to : spot.period ≤ inst.periods

-- such spots
abbrev pub AreSpots : Tables → ℕ → List Spot → Type 0
AreSpots inst sets spots = All (IsSpot inst sets) spots

-- each array is as long as it should be, and what they name is there
pub record IsAscent (inst : Tables) (starts : List Start) (bases : ℕ) (ranges : List Range) (works : List Work)
    (bands : ℕ) (sets : List Set) (spots : List Spot) (charges tails dues entries chosen busy : ℕ) : Type 0 where
  pub each_start : AreStarts inst starts
  pub each_base : bases ≡ length starts
  pub each_range : length ranges ≡ length inst.names
  pub within : All (IsRange (length starts)) ranges
  pub each_work : AreWorks inst (length starts) works
  pub each_band : bands ≡ band_count inst
  pub each_set : AreSets inst sets
  pub each_spot : AreSpots inst (length sets) spots
  pub each_charge : charges ≡ length spots
  pub each_tail : tails ≡ inst.periods
  pub each_due : dues ≡ period_count inst
  pub each_entry : entries ≡ length starts
  pub each_chosen : chosen ≡ length starts
  pub each_busy : busy ≡ period_count inst
