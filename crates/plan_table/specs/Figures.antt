-- What a period comes to before it is reported. Cited by private functions only: no part of any promise.
use Rattle.std.specs.Prelude.{◌≡◌, ℕ, ◌≤◌, ◌^◌, ℤ, List, Option, unsigned_abs}
use Rattle.fixed_num.specs.Rank.{mth_smallest}
use Rattle.instance_model.specs.Tables.{Tables, scenarios_of, rank_of}
use Rattle.instance_model.specs.Plans.{scenario_sums, soft_count, IsSmallSum}
use Rattle.plan_table.specs.declared.figures.Figures.{Figures}
use Rattle.plan_table.specs.declared.figures.PeriodSums.{PeriodSums}
use Rattle.plan_table.specs.declared.figures.Ranked.{Ranked}
use Rattle.plan_table.specs.Reports.{mean_floor_in, mean_ceil_in, excess_floor_in, excess_ceil_in}

-- these are the scenario sums and the soft starts of period t
pub record ArePeriodSums (inst : Tables) (plan : List (Option ℕ)) (t : ℕ) (s : PeriodSums) : Type 0 where
  pub values : s.values.items ≡ scenario_sums inst plan t
  pub soft : s.soft ≡ soft_count inst plan t
  pub soft_small : s.soft ≤ 1024

-- a number of a report before it is kept: the value, and how large it is
pub record IsFigure (value z : ℤ) : Type 0 where
  pub same : z ≡ value
  pub small : unsigned_abs z ≤ 10 ^ 33

-- these are the least, the one at the rank and the greatest of the sums
pub record AreRanked (rank count : ℕ) (sums : List ℤ) (r : Ranked) : Type 0 where
  pub least : IsFigure (mth_smallest 1 sums) r.least
  pub quantile : IsFigure (mth_smallest rank sums) r.quantile
  pub greatest : IsFigure (mth_smallest count sums) r.greatest
  pub quantile_small : IsSmallSum r.quantile

-- these are the numbers of period t
pub record AreFigures (inst : Tables) (plan : List (Option ℕ)) (t : ℕ) (f : Figures) : Type 0 where
  pub ranked : AreRanked (rank_of inst t) (scenarios_of inst t) (scenario_sums inst plan t) f.ranked
  pub mean_low : IsFigure (mean_floor_in inst plan t) f.mean_low
  pub mean_high : IsFigure (mean_ceil_in inst plan t) f.mean_high
  pub excess_low : IsFigure (excess_floor_in inst plan t) f.excess_low
  pub excess_high : IsFigure (excess_ceil_in inst plan t) f.excess_high
