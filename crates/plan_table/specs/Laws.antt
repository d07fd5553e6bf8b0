-- What the reports of all periods say together.
use Rattle.std.specs.Prelude.{◌≡◌, ℕ, ◌+◌, ◌≤◌, ℤ, List, [], All, map, Some, ◌↔◌}
use Rattle.fixed_num.specs.Floors.{floor_of, ceil_of}
use Rattle.fixed_num.specs.Sums.{sum_below}
use Rattle.instance_model.specs.Tables.{Tables}
use Rattle.instance_model.specs.Plans.{AreAllowedStarts}
use Rattle.instance_model.specs.Rules.{IsFeasible}
use Rattle.plan_score.specs.declared.values.Values.{Values}
use Rattle.plan_score.specs.Values.{values_of}
use Rattle.plan_table.specs.declared.report.PeriodReport.{PeriodReport}
use Rattle.plan_table.specs.declared.report.LoadState.TheVariants.{Fits}
use Rattle.plan_table.specs.Reports.{IsReport, report_of}

-- each plan and period has one report
abbrev pub OneReport : Tables → Type 0
OneReport inst =
    (starts : List ℕ) (t : ℕ) (report : PeriodReport)
    → IsReport inst starts t report ↔ (report ≡ report_of inst starts t)

-- the reports of the periods 1 to T of a plan, by period
pub record AreReports (inst : Tables) (starts : List ℕ) (reports : ℕ → PeriodReport) : Type 0 where
  pub allowed : AreAllowedStarts inst starts
  pub each : (t : ℕ) → 1 ≤ t → t ≤ inst.periods → IsReport inst starts t (reports t)

-- no load is over or under, and no exclusion is broken
pub record ShowsNoFault (report : PeriodReport) : Type 0 where
  pub loads : All (λ line. line.state ≡ Fits) report.loads
  pub clashes : report.clashes ≡ []

-- no report shows a fault exactly where the plan is feasible
abbrev pub NoFaultMeansFeasible : Tables → Type 0
NoFaultMeansFeasible inst = (starts : List ℕ) (reports : ℕ → PeriodReport) → AreReports inst starts reports
    → ((t : ℕ) → 1 ≤ t → t ≤ inst.periods → ShowsNoFault (reports t)) ↔ IsFeasible inst (map Some starts)

-- a share of the sum over the periods: rounded down, and rounded up
abbrev pub low_share : Tables → (PeriodReport → ℤ) → (ℕ → PeriodReport) → ℤ
low_share inst number reports = floor_of (sum_below inst.periods (λ u. number (reports (u + 1)))) inst.periods

abbrev pub high_share : Tables → (PeriodReport → ℤ) → (ℕ → PeriodReport) → ℤ
high_share inst number reports = ceil_of (sum_below inst.periods (λ u. number (reports (u + 1)))) inst.periods

-- the mean and the excess of a plan are those of its periods, added up and divided by their number
pub record AreShares (inst : Tables) (reports : ℕ → PeriodReport) (values : Values) : Type 0 where
  pub mean_low : low_share inst (λ r. r.mean_low) reports ≡ values.mean_low
  pub mean_high : high_share inst (λ r. r.mean_high) reports ≡ values.mean_high
  pub excess_low : low_share inst (λ r. r.excess_low) reports ≡ values.excess_low
  pub excess_high : high_share inst (λ r. r.excess_high) reports ≡ values.excess_high

abbrev pub ValuesAreShares : Tables → Type 0
ValuesAreShares inst = (starts : List ℕ) (reports : ℕ → PeriodReport) → AreReports inst starts reports
    → AreShares inst reports (values_of inst (map Some starts))
