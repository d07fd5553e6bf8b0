-- The reports of all periods tell whether a plan keeps the rules, and its values.
use Rattle.std.proofs.Common.{◌≡◌, ℕ, zero, suc, ◌+◌, ◌-◌, ◌<◌, ◌≤◌, refl, sym, ◌∙◌, ap, subst, arith, ℤ, List}
use Rattle.std.proofs.Common.{◌∷◌, map, Option, Some, min}
use Rattle.std.specs.List.{range_with_len, All}
use Rattle.std.proofs.lemmas.List.Elements.{All-get_or, All-from_get_or}
use Rattle.std.proofs.lemmas.List.FromFn.{length-map-range_with_len, get_or-map-range_with_len}
use Rattle.fixed_num.specs.Floors.{floor_of, ceil_of}
use Rattle.fixed_num.specs.Sums.{sum_below, total}
use Rattle.fixed_num.proofs.SumLemmas.{total-list_of}
use Rattle.instance_model.specs.Tables.{Tables}
use Rattle.instance_model.specs.Plans.{AreAllowedStarts}
use Rattle.instance_model.proofs.RuleLemmas.{KeepsRules-from, IsFeasible-from}
use Rattle.plan_score.specs.Values.{values_of}
use Rattle.plan_table.specs.declared.report.PeriodReport.{PeriodReport}
use Rattle.plan_table.specs.Reports.{report_of}
use Rattle.plan_table.specs.Laws.{AreReports, ShowsNoFault, AreShares}
use Rattle.plan_table.proofs.LawLemmas.{no_fault_law, shares_law}
use Rattle.plan_table.proofs.OneLemmas.{one_law}
use Rattle.command_frame.specs.Openings.{IsOpeningOf}
use Rattle.command_table.specs.Tabling.{periods_in, reports_of, IsWholeYear, TellsPlanWhole}

-- ---- what f makes of 1 to n

module _ {X : Type 0} (P : X → Type 0) (f : ℕ → X) (n : ℕ) where
  listed : ((t : ℕ) → 1 ≤ t → t ≤ n → P (f t)) → All P (map f (range_with_len 1 n))
  listed h =
      All-from_get_or P (map f (range_with_len 1 n)) (f 1)
      (λ i l. let low : i < n = omega (arith, length-map-range_with_len f 1 n, l) in
      subst P (sym (get_or-map-range_with_len f 1 n i (i + 1) (f 1) low (omega arith)))
      (h (i + 1) (omega arith) (omega (arith, low))))

  each_listed : All P (map f (range_with_len 1 n)) → (t : ℕ) → 1 ≤ t → t ≤ n → P (f t)
  each_listed all t from to =
      let low : t - 1 < n = omega (arith, from, to) in
      subst P (get_or-map-range_with_len f 1 n (t - 1) t (f 1) low (omega (arith, from)))
      (All-get_or P (map f (range_with_len 1 n)) (t - 1) (f 1)
      (omega (arith, length-map-range_with_len f 1 n, low)) all)

-- ---- sums over them

one_later : (number : PeriodReport → ℤ) (f : ℕ → PeriodReport) (a n : ℕ)
    → map number (map f (range_with_len (a + 1) n)) ≡ map (λ u. number (f (u + 1))) (range_with_len a n)
one_later number f a zero = refl
one_later number f a (suc n) = ap (λ (xs : List ℤ). number (f (a + 1)) ∷ xs) (one_later number f (a + 1) n)

sum_listed : (number : PeriodReport → ℤ) (f : ℕ → PeriodReport) (n : ℕ)
    → total (map number (map f (range_with_len 1 n))) ≡ sum_below n (λ u. number (f (u + 1)))
sum_listed number f n = ap total (one_later number f 0 n) ∙ total-list_of n (λ u. number (f (u + 1)))

-- ---- a plan of allowed starts

module _ (inst : Tables) (starts : List ℕ) (allowed : AreAllowedStarts inst starts) where
  are_reports : AreReports inst starts (report_of inst starts)
  are_reports =
      record { allowed = allowed; each = λ t from to. (one_law inst starts t (report_of inst starts t)).1 refl }

  shares : AreShares inst (report_of inst starts) (values_of inst (map Some starts))
  shares = shares_law inst starts (report_of inst starts) are_reports

  down : (number : PeriodReport → ℤ)
      → floor_of (total (map number (map (report_of inst starts) (range_with_len 1 inst.periods)))) inst.periods
      ≡ floor_of (sum_below inst.periods (λ u. number (report_of inst starts (u + 1)))) inst.periods
  down number = ap (λ (z : ℤ). floor_of z inst.periods) (sum_listed number (report_of inst starts) inst.periods)

  up : (number : PeriodReport → ℤ)
      → ceil_of (total (map number (map (report_of inst starts) (range_with_len 1 inst.periods)))) inst.periods
      ≡ ceil_of (sum_below inst.periods (λ u. number (report_of inst starts (u + 1)))) inst.periods
  up number = ap (λ (z : ℤ). ceil_of z inst.periods) (sum_listed number (report_of inst starts) inst.periods)

  of_starts : TellsPlanWhole inst (map Some starts) (map (report_of inst starts) (range_with_len 1 inst.periods))
  of_starts =
      let law = no_fault_law inst starts (report_of inst starts) are_reports in
      record {
        no_fault = (
          λ all. KeepsRules-from inst (map Some starts)
              (law.0 (each_listed ShowsNoFault (report_of inst starts) inst.periods all)),
          λ keeps. listed ShowsNoFault (report_of inst starts) inst.periods
              (law.1 (IsFeasible-from inst (map Some starts) keeps)),
        );
        adds_up = record {
          mean_low = down (λ r. r.mean_low) ∙ shares.mean_low;
          mean_high = up (λ r. r.mean_high) ∙ shares.mean_high;
          excess_low = down (λ r. r.excess_low) ∙ shares.excess_low;
          excess_high = up (λ r. r.excess_high) ∙ shares.excess_high;
        };
      }

whole_periods : (inst : Tables) (from to : ℕ) → IsWholeYear inst from to
    → periods_in inst from to ≡ range_with_len 1 inst.periods
whole_periods inst from to whole =
    let n : min to inst.periods + 1 - from ≡ inst.periods = omega (arith, whole.first, whole.last) in
    rw (n, whole.first) refl

pub whole_year : (inst : Tables) (plan : List (Option ℕ)) (starts : List ℕ) (from to : ℕ) → IsOpeningOf inst plan starts
    → IsWholeYear inst from to → TellsPlanWhole inst plan (reports_of inst starts from to)
whole_year inst plan starts from to opens whole =
    subst (λ (periods : List ℕ). TellsPlanWhole inst plan (map (report_of inst starts) periods))
    (sym (whole_periods inst from to whole))
    (subst (λ (p : List (Option ℕ)).
    TellsPlanWhole inst p (map (report_of inst starts) (range_with_len 1 inst.periods))) (sym opens.starts)
    (of_starts inst starts opens.allowed))
