-- What was made of an instance and a plan is an answer to them.
use Rattle.std.proofs.Common.{◌≡◌, ℕ, ◌<◌, ◌^◌, refl, sym, ◌∙◌, ap, subst, ℤ, ◌≤ℤ◌, List, [], ◌∷◌, ◌++◌, length, map}
use Rattle.std.proofs.Common.{Option, Some, None, codes, append_assoc, unsigned_abs}
use Rattle.std.specs.Prelude.{IfSome}
use Rattle.instance_model.specs.Limits.{standard_limits}
use Rattle.instance_model.specs.Tables.{Tables}
use Rattle.instance_model.specs.Fitting.{IsFitting}
use Rattle.instance_model.specs.Rules.{first_rule, IsFeasible}
use Rattle.instance_model.specs.declared.rule.Rule.{Rule}
use Rattle.instance_model.specs.Values.{score_of}
use Rattle.instance_model.proofs.RuleLemmas.{KeepsRules-from, IsFeasible-from}
use Rattle.plan_score.specs.Values.{values_of}
use Rattle.plan_score.specs.Verdict.{IfFeasible, IfBroken}
use Rattle.plan_score.specs.declared.values.Values.{Values}
use Rattle.plan_score.specs.declared.verdict.Verdict.{Verdict}
use Rattle.plan_score.specs.declared.verdict.Verdict.TheVariants.{Feasible, Broken}
use Rattle.plan_text.specs.Spelling.{plan_text}
use Rattle.plan_changes.specs.Changes.{changes_of}
use Rattle.branch_search.specs.Best.{IsFeasiblePlan}
use Rattle.local_search.specs.Openings.{IsWithoutStart}
use Rattle.plan_improvement.specs.Improving.{IsImproved, IsNothing}
use Rattle.command_frame.specs.Lines.{numbered_line}
use Rattle.command_frame.specs.Reports.{score_line, ranges_text, rounded_line}
use Rattle.command_frame.specs.Files.OnFile.{stands}
use Rattle.command_frame.proofs.PlanWrites.{writable_plan, spelled_plan}
use Rattle.command_answers.specs.Check.{IsKeptPlan}
use Rattle.command_answers.specs.Evaluate.{EnclosesEveryReading}
use Rattle.command_answers.specs.Evaluate.Judges.{feasible}
use Rattle.command_improve.specs.Improving.{old_starts, score_before, score_unbroken, before_line, improved_report}
use Rattle.command_improve.specs.Improving.{nothing_report, none_report, out_write, IsEvaluable, IsFound, IsUnfound}
use Rattle.command_improve.specs.Improving.{Improves}
use Rattle.command_improve.specs.Improving.Improves.{improved, nothing, no_start}
use Rattle.command_improve.specs.Made.{values_report, IsSolution}

-- ---- the score of the plan that is given

score_of_values : (inst : Tables) (plan : List (Option ℕ)) → (values_of inst plan).score ≡ score_of inst plan
unfolding values_of
score_of_values inst plan = refl

pub before_kept : (inst : Tables) (plan : List (Option ℕ)) (v : Verdict) (values : Values) → v ≡ Feasible values
    → IfFeasible v (λ w. first_rule inst plan ≡ None) → IfFeasible v (λ w. w ≡ values_of inst plan)
    → Some values.score ≡ score_before inst (Some plan)
before_kept inst plan v values is none values_are =
    ap (λ (w : Values). Some w.score)
    (subst (λ (x : Verdict). IfFeasible x (λ w. w ≡ values_of inst plan)) is values_are)
    ∙ ap Some (score_of_values inst plan)
    ∙ ap (λ (o : Option Rule). score_unbroken o (score_of inst plan))
    (sym (subst (λ (x : Verdict). IfFeasible x (λ w. first_rule inst plan ≡ None)) is none))

pub before_small : (v : Verdict) (values : Values) → v ≡ Feasible values
    → IfFeasible v (λ w. unsigned_abs w.score < 10 ^ 33) → unsigned_abs values.score < 10 ^ 33
before_small v values is small =
    subst (λ (x : Verdict). IfFeasible x (λ w. unsigned_abs w.score < 10 ^ 33)) is small

-- ---- a plan that was found

nested : (a b c d e f : List ℕ)
    → ((((a ++ b) ++ c) ++ d) ++ e) ++ f ≡ a ++ (b ++ (c ++ (d ++ (e ++ f))))
nested a b c d e f = simp append_assoc

report_is : (inst : Tables) (given : Option (List (Option ℕ))) (plan : List ℕ)
    → values_report inst (values_of inst (map Some plan)) (score_before inst given) (changes_of (old_starts given) plan)
    ≡ improved_report inst given plan
unfolding values_of
report_is inst given plan =
    nested (codes "plan improved\n") (score_line (score_of inst (map Some plan)))
    (before_line (score_before inst given)) (numbered_line (codes "changed ") (changes_of (old_starts given) plan))
    (ranges_text (values_of inst (map Some plan))) (rounded_line inst.rounded)

evaluable : (inst : Tables) (plan : List ℕ) → IsFitting inst → IsFeasiblePlan inst plan
    → EnclosesEveryReading inst (map Some plan) → IsEvaluable standard_limits inst plan
evaluable inst plan fit good encloses =
    let keeps = KeepsRules-from inst (map Some plan) good.feasible in
    let writable = writable_plan inst plan fit good.each good.feasible in
    record {
      keeps = keeps;
      judged = stands (plan_text inst.names plan) (map Some plan) _ refl (spelled_plan inst plan fit writable)
          (feasible keeps encloses);
    }

module _ (inst : Tables) (given : Option (List (Option ℕ))) (turns : ℕ) where
  module _ (fit : IsFitting inst) (plan : List ℕ) (values : Values)
      (is : IsImproved inst (old_starts given) turns plan values) where
    is_found : IsFound standard_limits inst given turns plan
    is_found = record {
      improved = subst (λ (v : Values). IsImproved inst (old_starts given) turns plan v) is.judged.values_are is;
      no_worse = λ old same kept. no_worse old same kept;
      evaluable = evaluable inst plan fit is.judged.is_plan is.judged.encloses;
    }
      where
        no_worse : (old : List (Option ℕ)) → given ≡ Some old → IsKeptPlan inst old
            → score_of inst (map Some plan) ≤ℤ score_of inst old
        no_worse old same kept =
            let starts : old_starts given ≡ old = ap old_starts same in
            subst (λ (o : List (Option ℕ)). score_of inst (map Some plan) ≤ℤ score_of inst o) starts
            (is.no_worse (ap (λ (o : List (Option ℕ)). length o) starts ∙ kept.each)
            (subst (λ (o : List (Option ℕ)). IsFeasible inst o) (sym starts)
            (IsFeasible-from inst old kept.keeps)))

    pub found_solution : (before : Option ℤ) (changed : ℕ) (seen : List (Option ℕ)) (starts text : List ℕ)
        → before ≡ score_before inst given → seen ≡ old_starts given → starts ≡ plan → changed ≡ changes_of seen starts
        → text ≡ values_report inst values before changed
        → IsSolution inst given turns (record {
          report = record { status = 0; text = text };
          plan = Some plan;
        })
    found_solution before changed seen starts text is_before are same counted said = record {
      improves = λ out. at out;
      writable = writable_plan inst plan fit is.judged.is_plan.each is.judged.is_plan.feasible;
    }
      where
        text_is : text ≡ improved_report inst given plan
        text_is = said
            ∙ ap (λ (v : Values). values_report inst v before changed) is.judged.values_are
            ∙ ap (λ (o : Option ℤ). values_report inst (values_of inst (map Some plan)) o changed) is_before
            ∙ ap (λ (n : ℕ). values_report inst (values_of inst (map Some plan)) (score_before inst given) n)
            (counted ∙ ap (λ (o : List (Option ℕ)). changes_of o starts) are
            ∙ ap (λ (xs : List ℕ). changes_of (old_starts given) xs) same)
            ∙ report_is inst given plan

        at : (out : List ℕ) → Improves standard_limits inst given out turns (record {
          status = 0;
          text = text;
          writes = out_write inst out plan ∷ [];
        })
        at out = rw text_is (improved plan is_found)

  -- ---- where none was found

  pub nothing_solution : (seen : List (Option ℕ)) (violation : ℤ) (text : List ℕ) → seen ≡ old_starts given
      → IsNothing inst seen turns violation → text ≡ nothing_report inst violation
      → IsSolution inst given turns (record {
        report = record { status = 9; text = text };
        plan = None;
      })
  nothing_solution seen violation text are is said = record { improves = λ out. at out; writable = tt }
    where
      here : IsNothing inst (old_starts given) turns violation
      here = subst (λ (o : List (Option ℕ)). IsNothing inst o turns violation) are is

      broken : (old : List (Option ℕ)) → given ≡ Some old → IsKeptPlan inst old → ⊥
      broken old same kept =
          let starts : old_starts given ≡ old = ap old_starts same in
          here.broken (ap (λ (o : List (Option ℕ)). length o) starts ∙ kept.each)
          (subst (λ (o : List (Option ℕ)). IsFeasible inst o) (sym starts)
          (IsFeasible-from inst old kept.keeps))

      at : (out : List ℕ) → Improves standard_limits inst given out turns (record {
        status = 9;
        text = text;
        writes = [];
      })
      at out = rw said (nothing violation (record { nothing = here; broken = broken }))

  pub none_solution : (i : ℕ) (text : List ℕ) → IsWithoutStart inst i → text ≡ none_report inst
      → IsSolution inst given turns (record {
        report = record { status = 10; text = text };
        plan = None;
      })
  none_solution i text without said = record { improves = λ out. at out; writable = tt }
    where
      at : (out : List ℕ) → Improves standard_limits inst given out turns (record {
        status = 10;
        text = text;
        writes = [];
      })
      at out = rw said (no_start i without)
