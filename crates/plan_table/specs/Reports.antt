-- The report of a period of a plan. A plan is given by one allowed start for each intervention. Periods, starts and
-- days count from 1, interventions, resources and exclusions from 0; risks and loads are counts of 10^-12.
use Rattle.std.specs.Prelude.{◌≡◌, ℕ, ◌+◌, ◌-◌, ℤ, pos, ◌+ℤ◌, ◌-ℤ◌, List, length, map, filter, Option, Some}
use Rattle.std.specs.Prelude.{slice_index, int_lt, if◌then◌else◌}
use Rattle.std.specs.List.{range_with_len}
use Rattle.std.specs.Int.{int_max}
use Rattle.fixed_num.specs.Floors.{floor_of, ceil_of}
use Rattle.fixed_num.specs.Sums.{list_of, total}
use Rattle.fixed_num.specs.Rank.{mth_smallest}
use Rattle.instance_model.specs.Naturals.{ceil_div_of}
use Rattle.instance_model.specs.Tables.{Tables, scenarios_of, rank_of, delta_of, risk_of, upper_of, lower_of}
use Rattle.instance_model.specs.Plans.{is_running, load_sum, scenario_sums, soft_count}
use Rattle.instance_model.specs.Rules.{clashes}
use Rattle.instance_model.specs.Values.{risk_total, excess_of}
use Rattle.plan_table.specs.declared.report.PeriodReport.{PeriodReport}
use Rattle.plan_table.specs.declared.report.LoadLine.{LoadLine}
use Rattle.plan_table.specs.declared.report.RunLine.{RunLine}
use Rattle.plan_table.specs.declared.report.LoadState.{LoadState}
use Rattle.plan_table.specs.declared.report.LoadState.TheVariants.{Fits, Over, Under}

-- ---- mean and excess of a period: each low value is at most what the numbers
-- of the file give, each high one at least

-- the mean of the scenario sums, rounded down, and half a count less for each soft start in progress
abbrev pub mean_floor_in : Tables → List (Option ℕ) → ℕ → ℤ
mean_floor_in inst plan t =
    floor_of (risk_total inst plan t) (scenarios_of inst t) -ℤ pos (ceil_div_of (soft_count inst plan t) 2)

-- the mean rounded up, and half a count more for each soft start in progress
abbrev pub mean_ceil_in : Tables → List (Option ℕ) → ℕ → ℤ
mean_ceil_in inst plan t =
    ceil_of (risk_total inst plan t) (scenarios_of inst t) +ℤ pos (ceil_div_of (soft_count inst plan t) 2)

-- the excess of the quantile over the mean, rounded down, and a count less for
-- each soft start in progress, but not below 0
abbrev pub excess_floor_in : Tables → List (Option ℕ) → ℕ → ℤ
excess_floor_in inst plan t =
    int_max (pos 0) (floor_of (excess_of inst plan t) (scenarios_of inst t) -ℤ pos (soft_count inst plan t))

-- the excess rounded up, and a count more for each soft start in progress
abbrev pub excess_ceil_in : Tables → List (Option ℕ) → ℕ → ℤ
excess_ceil_in inst plan t =
    ceil_of (excess_of inst plan t) (scenarios_of inst t) +ℤ pos (soft_count inst plan t)

-- ---- loads

-- a load above the upper limit is over, else one below the lower limit is under, and every other fits
unfoldable pub load_state_of : (load lower upper : ℤ) → LoadState
load_state_of load lower upper =
    if int_lt upper load then Over else if int_lt load lower then Under else Fits

-- the load of resource c in period t and its limits
abbrev pub load_line_of : Tables → List (Option ℕ) → ℕ → ℕ → LoadLine
load_line_of inst plan t c =
    record {
      c = c;
      load = load_sum inst plan c t;
      lower = lower_of inst c t;
      upper = upper_of inst c t;
      state = load_state_of (load_sum inst plan c t) (lower_of inst c t) (upper_of inst c t);
    }

-- a line for each resource, in file order
abbrev pub load_lines_of : Tables → List (Option ℕ) → ℕ → List LoadLine
load_lines_of inst plan t = map (load_line_of inst plan t) (range_with_len 0 (length inst.resource_names))

-- ---- runs

-- the sum over the scenarios of the risks of intervention i at start s in period t
unfoldable pub run_risk : Tables → ℕ → ℕ → ℕ → ℤ
run_risk inst i s t = total (list_of (scenarios_of inst t) (λ k. risk_of inst i s t (k + 1)))

-- intervention i, which starts at s and is in progress in period t: the day of its run, the duration, and the mean of
-- its own risk, rounded down and up
unfoldable pub run_line_of : Tables → ℕ → ℕ → ℕ → RunLine
run_line_of inst t i s =
    record {
      i = i;
      start = s;
      day = t - s + 1;
      duration = delta_of inst i s;
      low = floor_of (run_risk inst i s t) (scenarios_of inst t);
      high = ceil_of (run_risk inst i s t) (scenarios_of inst t);
    }

-- the interventions in progress in period t, in file order
abbrev pub running_in : Tables → List ℕ → ℕ → List ℕ
running_in inst starts t = filter (λ i. is_running inst (map Some starts) i t) (range_with_len 0 (length inst.names))

-- a line for each of them
abbrev pub run_lines_of : Tables → List ℕ → ℕ → List RunLine
run_lines_of inst starts t = map (λ i. run_line_of inst t i (slice_index starts i)) (running_in inst starts t)

-- ---- exclusions

-- the exclusions that are broken in period t, in file order
abbrev pub clashes_in : Tables → List (Option ℕ) → ℕ → List ℕ
clashes_in inst plan t = filter (λ e. clashes inst plan e t) (range_with_len 0 (length inst.exclusion_names))

-- ---- all of it

-- the report of period t as one value
unfoldable pub report_of : Tables → List ℕ → ℕ → PeriodReport
report_of inst starts t =
    record {
      t = t;
      scenarios = scenarios_of inst t;
      rank = rank_of inst t;
      least = mth_smallest 1 (scenario_sums inst (map Some starts) t);
      quantile = mth_smallest (rank_of inst t) (scenario_sums inst (map Some starts) t);
      greatest = mth_smallest (scenarios_of inst t) (scenario_sums inst (map Some starts) t);
      mean_low = mean_floor_in inst (map Some starts) t;
      mean_high = mean_ceil_in inst (map Some starts) t;
      excess_low = excess_floor_in inst (map Some starts) t;
      excess_high = excess_ceil_in inst (map Some starts) t;
      loads = load_lines_of inst (map Some starts) t;
      runs = run_lines_of inst starts t;
      clashes = clashes_in inst (map Some starts) t;
    }

-- this is the report of period t, sentence by sentence
pub record IsReport (inst : Tables) (starts : List ℕ) (t : ℕ) (report : PeriodReport) : Type 0 where
  pub period : report.t ≡ t
  pub scenarios : report.scenarios ≡ scenarios_of inst t
  pub rank : report.rank ≡ rank_of inst t
  -- of the scenario sums the least, the one at the rank, and the greatest, which is at the last rank
  pub least : report.least ≡ mth_smallest 1 (scenario_sums inst (map Some starts) t)
  pub quantile : report.quantile ≡ mth_smallest (rank_of inst t) (scenario_sums inst (map Some starts) t)
  pub greatest : report.greatest ≡ mth_smallest (scenarios_of inst t) (scenario_sums inst (map Some starts) t)
  pub mean_low : report.mean_low ≡ mean_floor_in inst (map Some starts) t
  pub mean_high : report.mean_high ≡ mean_ceil_in inst (map Some starts) t
  pub excess_low : report.excess_low ≡ excess_floor_in inst (map Some starts) t
  pub excess_high : report.excess_high ≡ excess_ceil_in inst (map Some starts) t
  pub loads : report.loads ≡ load_lines_of inst (map Some starts) t
  pub runs : report.runs ≡ run_lines_of inst starts t
  pub clashes : report.clashes ≡ clashes_in inst (map Some starts) t
