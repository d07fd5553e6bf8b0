-- The values of a plan: the score, and the printed cost, mean and excess.
use Rattle.std.specs.Prelude.{ℕ, ◌+◌, ◌-◌, ◌*◌, ℤ, pos, ◌+ℤ◌, ◌-ℤ◌, ◌*ℤ◌, List, Option, length}
use Rattle.std.specs.Int.{int_max}
use Rattle.fixed_num.specs.Floors.{floor_of, ceil_of}
use Rattle.fixed_num.specs.Sums.{sum_below, total}
use Rattle.fixed_num.specs.Rank.{mth_smallest}
use Rattle.instance_model.specs.Naturals.{count_sum, ceil_div_of}
use Rattle.instance_model.specs.Tables.{Tables, scenarios_of, rank_of}
use Rattle.instance_model.specs.Plans.{scenario_sums, soft_count}

-- ---- of one period, by the list of its scenario sums

-- n * Q - S, or 0 where that is negative: Q is the sum at the rank, S the sum of the n sums
unfoldable pub excess_in : ℕ → List ℤ → ℤ
excess_in rank sums = int_max (pos 0) (pos (length sums) *ℤ mth_smallest rank sums -ℤ total sums)

-- n times the weighted mean and excess, alpha in millionths: alpha * S + (10^6 - alpha) * excess
unfoldable pub numerator_in : ℕ → ℕ → List ℤ → ℤ
numerator_in alpha rank sums = (pos alpha *ℤ total sums) +ℤ (pos (1_000_000 - alpha) *ℤ excess_in rank sums)

-- ---- of a plan, in period t

-- the sum of the scenario sums
abbrev pub risk_total : Tables → List (Option ℕ) → ℕ → ℤ
risk_total inst plan t = total (scenario_sums inst plan t)

-- n times the excess of the quantile over the mean, or 0
abbrev pub excess_of : Tables → List (Option ℕ) → ℕ → ℤ
excess_of inst plan t = excess_in (rank_of inst t) (scenario_sums inst plan t)

-- n * 10^6 times the weighted risk
abbrev pub numerator_of : Tables → List (Option ℕ) → ℕ → ℤ
numerator_of inst plan t = numerator_in inst.alpha (rank_of inst t) (scenario_sums inst plan t)

-- ---- over all periods

-- the sum over the periods of f(t) / n, each rounded down
unfoldable pub sum_of_floors : Tables → (ℕ → ℤ) → ℤ
sum_of_floors inst f = sum_below inst.periods (λ u. floor_of (f (u + 1)) (scenarios_of inst (u + 1)))

-- the sum over the periods of f(t) / n, each rounded up
unfoldable pub sum_of_ceils : Tables → (ℕ → ℤ) → ℤ
sum_of_ceils inst f = sum_below inst.periods (λ u. ceil_of (f (u + 1)) (scenarios_of inst (u + 1)))

-- what a plan is to make small, in parts of 10^-18
abbrev pub score_of : Tables → List (Option ℕ) → ℤ
score_of inst plan = sum_of_floors inst (numerator_of inst plan)

-- the score with each period rounded up
abbrev pub roof_of : Tables → List (Option ℕ) → ℤ
roof_of inst plan = sum_of_ceils inst (numerator_of inst plan)

-- ---- printed values, in counts of 10^-12: each low value is at most what the
-- numbers of the file give, each high one at least

-- how far the sum over the periods may be off by rounding, in 10^-18: half of (2 * 10^6 - alpha) for each
-- soft start in progress, rounded up by period
unfoldable pub cost_slack : Tables → List (Option ℕ) → ℕ
cost_slack inst plan =
    count_sum inst.periods (λ u. ceil_div_of (soft_count inst plan (u + 1) * (2_000_000 - inst.alpha)) 2)

-- how far the sum of the means may be off by rounding: half a count for each
-- soft start in progress, rounded up by period
unfoldable pub mean_slack : Tables → List (Option ℕ) → ℕ
mean_slack inst plan = count_sum inst.periods (λ u. ceil_div_of (soft_count inst plan (u + 1)) 2)

-- the sum over the periods of the excess, rounded down, less a count for each soft start in progress, but not below 0
unfoldable pub excess_floors : Tables → List (Option ℕ) → ℤ
excess_floors inst plan = sum_below inst.periods
    (λ u. int_max (pos 0)
    (floor_of (excess_of inst plan (u + 1)) (scenarios_of inst (u + 1)) -ℤ pos (soft_count inst plan (u + 1))))

-- the sum over the periods of the excess, rounded up, and a count more for each soft start in progress
unfoldable pub excess_ceils : Tables → List (Option ℕ) → ℤ
excess_ceils inst plan = sum_below inst.periods
    (λ u. ceil_of (excess_of inst plan (u + 1)) (scenarios_of inst (u + 1)) +ℤ pos (soft_count inst plan (u + 1)))

abbrev pub cost_low_of : Tables → List (Option ℕ) → ℤ
cost_low_of inst plan = floor_of (score_of inst plan -ℤ pos (cost_slack inst plan)) (inst.periods * 1_000_000)

abbrev pub cost_high_of : Tables → List (Option ℕ) → ℤ
cost_high_of inst plan = ceil_of (roof_of inst plan +ℤ pos (cost_slack inst plan)) (inst.periods * 1_000_000)

abbrev pub mean_low_of : Tables → List (Option ℕ) → ℤ
mean_low_of inst plan = floor_of (sum_of_floors inst (risk_total inst plan) -ℤ pos (mean_slack inst plan)) inst.periods

abbrev pub mean_high_of : Tables → List (Option ℕ) → ℤ
mean_high_of inst plan = ceil_of (sum_of_ceils inst (risk_total inst plan) +ℤ pos (mean_slack inst plan)) inst.periods

abbrev pub excess_low_of : Tables → List (Option ℕ) → ℤ
excess_low_of inst plan = floor_of (excess_floors inst plan) inst.periods

abbrev pub excess_high_of : Tables → List (Option ℕ) → ℤ
excess_high_of inst plan = ceil_of (excess_ceils inst plan) inst.periods
