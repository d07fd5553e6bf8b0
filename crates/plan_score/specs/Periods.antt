-- What the walk over the periods has so far. Cited by private functions only: no part of any promise.
use Rattle.std.specs.Prelude.{◌≡◌, ℕ, ◌+◌, ◌-◌, ◌*◌, ◌≤◌, ◌^◌, ℤ, pos, ◌+ℤ◌, ◌-ℤ◌, List, Option, unsigned_abs}
use Rattle.std.specs.Int.{int_max}
use Rattle.fixed_num.specs.Floors.{floor_of, ceil_of}
use Rattle.fixed_num.specs.Sums.{sum_below}
use Rattle.instance_model.specs.Naturals.{count_sum, ceil_div_of}
use Rattle.instance_model.specs.Tables.{Tables, scenarios_of}
use Rattle.instance_model.specs.Plans.{soft_count}
use Rattle.instance_model.specs.Values.{risk_total, excess_of, numerator_of}
use Rattle.plan_score.specs.declared.period.Period.{Period}
use Rattle.plan_score.specs.declared.enclosure.Enclosure.{Enclosure}
use Rattle.plan_score.specs.declared.values.Totals.{Totals}

-- these are the total, the excess, the numerator and the soft starts of period t
pub record IsPeriod (inst : Tables) (plan : List (Option ℕ)) (t : ℕ) (p : Period) : Type 0 where
  pub total : p.total ≡ risk_total inst plan t
  pub excess : p.excess ≡ excess_of inst plan t
  pub numerator : p.numerator ≡ numerator_of inst plan t
  pub soft : p.soft ≡ soft_count inst plan t
  pub total_small : unsigned_abs p.total ≤ 1024 * 1024 * 10 ^ 20
  pub excess_small : unsigned_abs p.excess ≤ 2 * 1024 * 1024 * 10 ^ 20
  pub numerator_small : unsigned_abs p.numerator ≤ 3 * 1024 * 1024 * 10 ^ 26
  pub soft_small : p.soft ≤ 1024

-- e has the sums of f and g over the first u periods, none above 10^33 a period
pub record AreSumsTo (f g : ℕ → ℤ) (u : ℕ) (e : Enclosure) : Type 0 where
  pub low : e.low ≡ sum_below u f
  pub high : e.high ≡ sum_below u g
  pub low_small : unsigned_abs e.low ≤ u * 10 ^ 33
  pub high_small : unsigned_abs e.high ≤ u * 10 ^ 33

-- f(t) / n rounded down, and rounded up, for the period after u
abbrev pub floor_at : Tables → (ℕ → ℤ) → ℕ → ℤ
floor_at inst f u = floor_of (f (u + 1)) (scenarios_of inst (u + 1))

abbrev pub ceil_at : Tables → (ℕ → ℤ) → ℕ → ℤ
ceil_at inst f u = ceil_of (f (u + 1)) (scenarios_of inst (u + 1))

-- the excess of the period after u, rounded down and less a count for each soft start, but not below 0
abbrev pub excess_floor_at : Tables → List (Option ℕ) → ℕ → ℤ
excess_floor_at inst plan u =
    int_max (pos 0) (floor_at inst (excess_of inst plan) u -ℤ pos (soft_count inst plan (u + 1)))

-- the excess of the period after u, rounded up, and a count more for each soft start
abbrev pub excess_ceil_at : Tables → List (Option ℕ) → ℕ → ℤ
excess_ceil_at inst plan u = ceil_at inst (excess_of inst plan) u +ℤ pos (soft_count inst plan (u + 1))

-- half of the product of the soft starts of the period after u and a weight, rounded up
abbrev pub half_at : Tables → List (Option ℕ) → ℕ → ℕ → ℕ
half_at inst plan each u = ceil_div_of (soft_count inst plan (u + 1) * each) 2

-- s is the sum of these halves over the first u periods
pub record IsSlack (inst : Tables) (plan : List (Option ℕ)) (each u s : ℕ) : Type 0 where
  pub value : s ≡ count_sum u (half_at inst plan each)
  pub small : s ≤ u * 1_024_000_000

-- these are the sums over the first u periods
pub record AreTotals (inst : Tables) (plan : List (Option ℕ)) (u : ℕ) (totals : Totals) : Type 0 where
  pub score : AreSumsTo (floor_at inst (numerator_of inst plan)) (ceil_at inst (numerator_of inst plan)) u totals.score
  pub mean : AreSumsTo (floor_at inst (risk_total inst plan)) (ceil_at inst (risk_total inst plan)) u totals.mean
  pub excess : AreSumsTo (excess_floor_at inst plan) (excess_ceil_at inst plan) u totals.excess
  pub cost_slack : IsSlack inst plan (2_000_000 - inst.alpha) u totals.cost_slack
  pub mean_slack : IsSlack inst plan 1 u totals.mean_slack
