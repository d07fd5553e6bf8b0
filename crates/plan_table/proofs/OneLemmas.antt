-- Each plan and period has one report.
use Rattle.std.proofs.Common.{◌≡◌, ℕ, List, refl, subst, sym}
use Rattle.instance_model.specs.Tables.{Tables}
use Rattle.plan_table.specs.declared.report.PeriodReport.{PeriodReport}
use Rattle.plan_table.specs.Reports.{IsReport, report_of}
use Rattle.plan_table.specs.Laws.{OneReport}

report_is_report : (inst : Tables) (starts : List ℕ) (t : ℕ) → IsReport inst starts t (report_of inst starts t)
unfolding report_of
report_is_report inst starts t =
    record {
      period = refl;
      scenarios = refl;
      rank = refl;
      least = refl;
      quantile = refl;
      greatest = refl;
      mean_low = refl;
      mean_high = refl;
      excess_low = refl;
      excess_high = refl;
      loads = refl;
      runs = refl;
      clashes = refl;
    }

report_is : (inst : Tables) (starts : List ℕ) (t : ℕ) (report : PeriodReport) → IsReport inst starts t report
    → report ≡ report_of inst starts t
unfolding report_of
report_is inst starts t report is =
    λ i. record {
      t = is.period i;
      scenarios = is.scenarios i;
      rank = is.rank i;
      least = is.least i;
      quantile = is.quantile i;
      greatest = is.greatest i;
      mean_low = is.mean_low i;
      mean_high = is.mean_high i;
      excess_low = is.excess_low i;
      excess_high = is.excess_high i;
      loads = is.loads i;
      runs = is.runs i;
      clashes = is.clashes i;
    }

pub one_law : (inst : Tables) → OneReport inst
one_law inst starts t report =
    (report_is inst starts t report, λ e. subst (IsReport inst starts t) (sym e) (report_is_report inst starts t))
