-- What the rows keep beside the sums. Cited by private functions only: no part of any promise.
use Rattle.std.specs.Prelude.{◌≡◌, ℕ, ◌-◌, ◌≤◌, ℤ, List, [], length, map, All, slice_index_or}
use Rattle.fixed_num.specs.Floors.{floor_of}
use Rattle.fixed_num.specs.Sums.{total}
use Rattle.instance_model.specs.Plans.{IsSmallSum}
use Rattle.instance_model.specs.Values.{numerator_in}
use Rattle.scenario_rows.specs.RiskStates.{PeriodState}

-- 1 to 1,024 sums, each as large as a scenario sum can be
pub record AreRowSums (sums : List ℤ) : Type 0 where
  pub some : 1 ≤ length sums
  pub few : length sums ≤ 1024
  pub small : All IsSmallSum sums

-- what n sums add to the score: the numerator over n, rounded down
unfoldable pub part_in : ℕ → ℕ → List ℤ → ℤ
part_in alpha rank sums = floor_of (numerator_in alpha rank sums) (length sums)

-- what a period adds to the score
abbrev pub part_of : PeriodState → ℤ
part_of p = part_in p.alpha p.rank p.sums

-- the sums are those of a row, and alpha and rank are in range
pub record IsSoundPeriod (p : PeriodState) : Type 0 where
  pub alpha : p.alpha ≤ 1_000_000
  pub rank_from : 1 ≤ p.rank
  pub rank_to : p.rank ≤ length p.sums
  pub sums : AreRowSums p.sums

-- a row's sums, and their total
pub record IsTotalled (sums : List ℤ) (t : ℤ) : Type 0 where
  pub row : AreRowSums sums
  pub value : t ≡ total sums

-- a period, and what it adds to the score
pub record IsWeighed (p : PeriodState) (part : ℤ) : Type 0 where
  pub sound : IsSoundPeriod p
  pub value : part ≡ part_of p

-- period t of a list that begins with the first
abbrev pub period_at : List PeriodState → ℕ → PeriodState
period_at periods t = slice_index_or periods (t - 1) (record { alpha = 0; rank = 0; sums = [] })

-- at most 512 periods, and what they add up to
pub record IsScored (periods : List PeriodState) (score : ℤ) : Type 0 where
  pub few : length periods ≤ 512
  pub sound : All IsSoundPeriod periods
  pub value : score ≡ total (map part_of periods)

-- the periods are scored, and there is room for the sums of each, and for their values
pub record AreKept (periods : List PeriodState) (score : ℤ) (size values : ℕ) : Type 0 where
  pub scored : IsScored periods score
  pub room : All (λ p. length p.sums ≤ size) periods
  pub values_room : values ≡ size
