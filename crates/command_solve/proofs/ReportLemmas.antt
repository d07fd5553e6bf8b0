-- The report on a plan that was found, by the values that were judged.
use Rattle.std.proofs.Common.{◌≡◌, ℕ, List, ◌++◌, map, Option, Some, refl, ◌∙◌, ap, subst, ℤ, ◌-ℤ◌, codes}
use Rattle.std.proofs.Common.{append_assoc}
use Rattle.instance_model.specs.Tables.{Tables}
use Rattle.plan_score.specs.Values.{values_of}
use Rattle.plan_score.specs.Verdict.{IfFeasible}
use Rattle.plan_score.specs.declared.values.Values.{Values}
use Rattle.plan_score.specs.declared.verdict.Verdict.{Verdict}
use Rattle.plan_score.specs.declared.verdict.Verdict.TheVariants.{Feasible}
use Rattle.plan_moves.specs.declared.change.Change.{Change}
use Rattle.certificate_tree.specs.declared.certificate.Certificate.{Certificate}
use Rattle.instance_model.specs.Values.{score_of}
use Rattle.command_frame.specs.Reports.{score_line, bound_line, gap_line, ranges_text}
use Rattle.command_answers.specs.Evaluate.{EnclosesEveryReading}
use Rattle.command_solve.specs.Solving.{counts_text, found_report}
use Rattle.command_solve.specs.Made.{values_report, ReportsPlan}

nested : (a b c d e f : List ℕ)
    → ((((a ++ b) ++ c) ++ d) ++ e) ++ f ≡ a ++ (b ++ (c ++ (d ++ (e ++ f))))
nested a b c d e f = simp append_assoc

found_is : (inst : Tables) (plan : List ℕ) (b : ℤ) (cert : Certificate) (changes : List Change)
    → values_report inst (values_of inst (map Some plan)) b cert changes ≡ found_report inst plan b cert changes
unfolding values_of
found_is inst plan b cert changes =
    nested (codes "plan found\n") (score_line (score_of inst (map Some plan))) (bound_line b)
    (gap_line (score_of inst (map Some plan) -ℤ b)) (ranges_text (values_of inst (map Some plan)))
    (counts_text inst cert changes)

pub reports_plan : (inst : Tables) (plan : List ℕ) (seen : List (Option ℕ)) (v : Verdict) (values : Values) (b : ℤ)
    (cert : Certificate) (changes : List Change) (text : List ℕ) → seen ≡ map Some plan → v ≡ Feasible values
    → IfFeasible v (λ w. w ≡ values_of inst seen) → IfFeasible v (λ w. EnclosesEveryReading inst seen)
    → text ≡ values_report inst values b cert changes
    → ReportsPlan inst plan b cert changes (record { status = 0; text = text })
reports_plan inst plan seen v values b cert changes text same is are encloses report =
    let values_are : values ≡ values_of inst seen =
    subst (λ (x : Verdict). IfFeasible x (λ w. w ≡ values_of inst seen)) is are in
    record {
      status_is = refl;
      text_is = report
          ∙ ap (λ (w : Values). values_report inst w b cert changes) (values_are ∙ ap (values_of inst) same)
          ∙ found_is inst plan b cert changes;
      encloses = subst (EnclosesEveryReading inst) same
          (subst (λ (x : Verdict). IfFeasible x (λ w. EnclosesEveryReading inst seen)) is encloses);
    }
