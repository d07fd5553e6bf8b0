-- Whether a plan is feasible, by the laws on its reports.
use Rattle.std.proofs.Common.{◌≡◌, ℕ, ◌+◌, ◌≤◌, refl, sym, subst, arith, List, map, Some, Bool, true, false, eqb}
use Rattle.std.proofs.lemmas.Bool.Decides.{nat_tests}
use Rattle.instance_model.specs.Tables.{Tables}
use Rattle.instance_model.specs.Plans.{AreAllowedStarts}
use Rattle.instance_model.specs.Rules.{IsFeasible}
use Rattle.plan_table.specs.declared.report.PeriodReport.{PeriodReport}
use Rattle.plan_table.specs.Reports.{IsReport, report_of}
use Rattle.plan_table.specs.Laws.{OneReport, NoFaultMeansFeasible, AreReports, ShowsNoFault}

module _ (inst : Tables) (starts : List ℕ) (one : OneReport inst) where
  -- a report shows no fault where the one that the definitions make does, and the other way round
  pub shown_by_definition : (t : ℕ) (report : PeriodReport) → IsReport inst starts t report → ShowsNoFault report
      → ShowsNoFault (report_of inst starts t)
  shown_by_definition t report is shows = subst ShowsNoFault ((one starts t report).0 is) shows

  pub shown_by_report : (t : ℕ) (report : PeriodReport) → IsReport inst starts t report
      → ShowsNoFault (report_of inst starts t) → ShowsNoFault report
  shown_by_report t report is shows = subst ShowsNoFault (sym ((one starts t report).0 is)) shows

  are_reports : AreAllowedStarts inst starts → AreReports inst starts (report_of inst starts)
  are_reports allowed =
      record { allowed = allowed; each = λ t from to. (one starts t (report_of inst starts t)).1 refl }

  -- all periods together
  pub feasible_from_shown : NoFaultMeansFeasible inst → AreAllowedStarts inst starts
      → ((t : ℕ) → 1 ≤ t → t ≤ inst.periods → ShowsNoFault (report_of inst starts t))
      → IsFeasible inst (map Some starts)
  feasible_from_shown law allowed = (law starts (report_of inst starts) (are_reports allowed)).0

  pub shown_from_feasible : NoFaultMeansFeasible inst → AreAllowedStarts inst starts → IsFeasible inst (map Some starts)
      → (t : ℕ) → 1 ≤ t → t ≤ inst.periods → ShowsNoFault (report_of inst starts t)
  shown_from_feasible law allowed = (law starts (report_of inst starts) (are_reports allowed)).1

-- one period more
pub shown_more : (inst : Tables) (starts : List ℕ) (u : ℕ)
    → ((t : ℕ) → 1 ≤ t → t ≤ u → ShowsNoFault (report_of inst starts t)) → ShowsNoFault (report_of inst starts (u + 1))
    → (t : ℕ) → 1 ≤ t → t ≤ u + 1 → ShowsNoFault (report_of inst starts t)
shown_more inst starts u before here t from to = at (eqb t (u + 1)) refl
  where
    at : (b : Bool) → eqb t (u + 1) ≡ b → ShowsNoFault (report_of inst starts t)
    at true e = let same : t ≡ u + 1 = grind (arith, nat_tests) in
        subst (λ (v : ℕ). ShowsNoFault (report_of inst starts v)) (sym same) here
    at false e = before t from (grind (arith, nat_tests))
