-- The plan that is handed in.
use Rattle.std.proofs.Common.{◌≡◌, ℕ, ◌<◌, ◌^◌, sym, ◌∙◌, ap, subst, arith, List, length, Option, Some, None}
use Rattle.std.proofs.Common.{is_some, unsigned_abs}
use Rattle.std.proofs.lemmas.Bool.{false≢true}
use Rattle.instance_model.specs.Tables.{Tables}
use Rattle.instance_model.specs.Values.{score_of}
use Rattle.instance_model.specs.Rules.{first_rule, IsFeasible}
use Rattle.instance_model.specs.declared.rule.Rule.{Rule}
use Rattle.instance_model.proofs.RuleLemmas.{KeepsRules-from, IsFeasible-from, first_start_rule-none}
use Rattle.plan_score.specs.Values.{values_of}
use Rattle.plan_score.specs.declared.values.Values.{Values}
use Rattle.plan_score.specs.declared.verdict.Verdict.{Verdict}
use Rattle.plan_score.specs.declared.verdict.Verdict.TheVariants.{Feasible, Broken}
use Rattle.plan_score.specs.Verdict.{IfFeasible, IfBroken}
use Rattle.command_frame.specs.declared.opening.Opening.{Opening}
use Rattle.command_frame.specs.declared.opening.Opening.TheVariants.{Starts, Broken as BrokenStart}
use Rattle.command_frame.specs.Openings.{IsOpeningOf, OpensAs}
use Rattle.command_bound.specs.Made.{IsChosen}

some_or_none : (rule : Rule) → None ≡ Some rule → ⊥
some_or_none rule e = cc

is_feasible : (inst : Tables) (plan : List (Option ℕ)) → first_rule inst plan ≡ None → IsFeasible inst plan
is_feasible inst plan none = ap is_some none

feasible_breaks_none : (inst : Tables) (plan : List (Option ℕ)) (rule : Rule) → IsFeasible inst plan
    → first_rule inst plan ≡ Some rule → ⊥
feasible_breaks_none inst plan rule is first = false≢true (sym is ∙ ap is_some first)

module _ (inst : Tables) (plan slice : List (Option ℕ)) (same : slice ≡ plan) (verdict : Verdict) where
  -- one that breaks a rule is left aside
  pub left_aside : (rule : Rule) → verdict ≡ Broken rule → IfBroken verdict (λ r. first_rule inst slice ≡ Some r)
      → IsChosen inst (Some plan) None
  left_aside rule is told =
      let first : first_rule inst slice ≡ Some rule =
      subst (λ (v : Verdict). IfBroken v (λ r. first_rule inst slice ≡ Some r)) is told in
      record {
        is = λ keeps. feasible_breaks_none inst plan rule (IsFeasible-from inst plan keeps)
            (ap (first_rule inst) (sym same) ∙ first);
        incumbent = tt;
      }

  module _ (values : Values) (is : verdict ≡ Feasible values)
      (told : IfFeasible verdict (λ v. first_rule inst slice ≡ None)) where
    breaks_none : first_rule inst plan ≡ None
    breaks_none =
        ap (first_rule inst) (sym same)
        ∙ subst (λ (v : Verdict). IfFeasible v (λ x. first_rule inst slice ≡ None)) is told

    -- one that keeps every rule is handed in
    pub handed_in : (starts : List ℕ) (opening : Opening) → length plan ≡ length inst.names
        → IfFeasible verdict (λ v. v ≡ values_of inst slice)
        → IfFeasible verdict (λ v. unsigned_abs v.score < 10 ^ 33) → opening ≡ Starts starts
        → OpensAs inst plan opening
        → IsChosen inst (Some plan) (Some (record { starts = starts; score = values.score }))
    unfolding values_of
    handed_in starts opening each valued small which opens_as =
        let opens : IsOpeningOf inst plan starts = subst (OpensAs inst plan) which opens_as in
        let value : values ≡ values_of inst slice =
        subst (λ (v : Verdict). IfFeasible v (λ x. x ≡ values_of inst slice)) is valued in
        let less : unsigned_abs values.score < 10 ^ 33 =
        subst (λ (v : Verdict). IfFeasible v (λ x. unsigned_abs x.score < 10 ^ 33)) is small in
        record {
          is = (
            record { each = each; keeps = KeepsRules-from inst plan (is_feasible inst plan breaks_none) },
            opens.starts,
          );
          incumbent = record {
            feasible = record {
              each = opens.allowed.each;
              feasible = subst (IsFeasible inst) opens.starts (is_feasible inst plan breaks_none);
            };
            score = ap (λ (x : Values). x.score) value ∙ ap (score_of inst) same ∙ ap (score_of inst) opens.starts;
            small = omega (arith, less);
          };
        }

    -- it breaks none on starts
    pub never_broken : (text : List ℕ) (opening : Opening) → opening ≡ BrokenStart text → OpensAs inst plan opening
        → ⊥
    never_broken text opening which opens_as =
        let opens = subst (OpensAs inst plan) which opens_as in
        some_or_none opens.0
        (sym (first_start_rule-none inst plan (KeepsRules-from inst plan (is_feasible inst plan breaks_none)).starts)
        ∙ opens.1)
