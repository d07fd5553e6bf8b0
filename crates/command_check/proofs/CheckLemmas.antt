-- What a plan that was given comes to, and what is answered on a certificate.
use Rattle.std.proofs.Common.{◌≡◌, ℕ, ◌<◌, ◌^◌, List, length, Option, Some, None, true, false, ℤ, refl, sym, ◌∙◌, ap}
use Rattle.std.proofs.Common.{subst}
use Rattle.std.specs.Prelude.{IfSome, is_some, unsigned_abs}
use Rattle.instance_model.specs.Tables.{Tables}
use Rattle.instance_model.specs.Plans.{RunsAreAllowed}
use Rattle.instance_model.specs.Values.{score_of}
use Rattle.instance_model.specs.Exact.{CostIsJustAboveScore}
use Rattle.instance_model.specs.Rules.{first_rule, first_start_rule}
use Rattle.instance_model.specs.declared.rule.Rule.{Rule}
use Rattle.instance_model.proofs.RuleLemmas.{KeepsRules-from, IsFeasible-from}
use Rattle.instance_model.proofs.FirstLemmas.{or_else-none}
use Rattle.instance_model.proofs.PlanLemmas.{RunsAreAllowed-from_none}
use Rattle.plan_score.specs.Values.{values_of}
use Rattle.plan_score.specs.declared.values.Values.{Values}
use Rattle.lagrange_bound.specs.Goals.{risk_value}
use Rattle.certificate_tree.specs.Validity.{Claim, IsProved, IsFirstUnproved, BoundsPlans}
use Rattle.certificate_check.specs.declared.verdict.CertVerdict.{CertVerdict}
use Rattle.certificate_check.specs.declared.verdict.CertVerdict.TheVariants.{Valid, LeafFails}
use Rattle.certificate_check.specs.Verdicts.{IsVerdictOn}
use Rattle.command_frame.specs.Lines.{failing_leaf_line}
use Rattle.command_frame.specs.Reports.{infeasible_report, accepted_text, NamesOf}
use Rattle.command_frame.specs.Ending.{reply}
use Rattle.command_answers.specs.Check.{IsBroken, ChecksClaim}
use Rattle.command_answers.specs.Check.ChecksClaim.{broken_plan, failing_leaf, accepted}
use Rattle.command_check.specs.declared.check.Given.{Given}
use Rattle.command_check.specs.declared.check.Given.TheVariants.{Kept, Broken}
use Rattle.command_check.specs.Standing.{StandsAs, ChecksFor}
use Rattle.command_frame.proofs.RuleNames.{rule_names}
use Rattle.command_answers.proofs.BoundLemmas.{bounds_every}

-- ---- a plan that was given

some_breaks : (o : Option Rule) (rule : Rule) → o ≡ Some rule → is_some o ≡ false → ⊥
some_breaks o rule is none = apart (sym (ap is_some is) ∙ none)
  where
    apart : true ≡ false → ⊥
    apart h = cc

pub broken_stands : (inst : Tables) (plan seen : List (Option ℕ)) (rule : Rule) → seen ≡ plan
    → first_rule inst seen ≡ Some rule → IsBroken inst (Some plan) rule
broken_stands inst plan seen rule same first =
    let here : first_rule inst plan ≡ Some rule = subst
    (λ (p : List (Option ℕ)). first_rule inst p ≡ Some rule) same first in
    record {
      plan = plan;
      given_is = refl;
      not_kept = λ keeps. some_breaks (first_rule inst plan) rule here (IsFeasible-from inst plan keeps);
      first = here;
    }

pub kept_stands : (inst : Tables) (plan seen other : List (Option ℕ)) (values : Values)
    → length plan ≡ length inst.names → seen ≡ plan → other ≡ plan → first_rule inst seen ≡ None
    → values ≡ values_of inst other
    → unsigned_abs values.score < 10 ^ 36 → StandsAs inst (Some plan) (Kept (Some values.score))
unfolding values_of
kept_stands inst plan seen other values each same also none are small = (
  record {
    each = each;
    keeps =
        KeepsRules-from inst plan (ap is_some (subst (λ (p : List (Option ℕ)). first_rule inst p ≡ None) same none));
  },
  ap Some (ap (λ (v : Values). v.score) are ∙ ap (score_of inst) also),
  small,
)

pub broken_names : (inst : Tables) (given : Option (List (Option ℕ))) (g : Given) (rule : Rule) → StandsAs inst given g
    → g ≡ Broken rule → NamesOf inst rule
broken_names inst given g rule stands is =
    let b : IsBroken inst given rule = subst (StandsAs inst given) is stands in rule_names inst b.plan rule b.first

pub broken_checks : (inst : Tables) (given : Option (List (Option ℕ))) (claim : Claim) (g : Given)
    (rule : Rule) (text : List ℕ)
    → StandsAs inst given g → g ≡ Broken rule → text ≡ infeasible_report inst rule
    → ChecksClaim inst given claim (reply 1 text)
broken_checks inst given claim g rule text stands is report =
    let b : IsBroken inst given rule = subst (StandsAs inst given) is stands in subst
    (λ (t : List ℕ). ChecksClaim inst given claim (reply 1 t)) (sym report) (broken_plan rule b)

pub kept_checks : (inst : Tables) (given : Option (List (Option ℕ))) (claim : Claim) (g : Given)
    (score : Option ℤ) (s : ℕ) (t : List ℕ)
    → StandsAs inst given g → g ≡ Kept score → ChecksFor inst score claim s t
    → ChecksClaim inst given claim (reply s t)
kept_checks inst given claim g score s t stands is checks =
    let k : StandsAs inst given (Kept score) = subst (StandsAs inst given) is stands in checks given k.0 k.1

pub kept_small : (inst : Tables) (given : Option (List (Option ℕ))) (g : Given) (score : Option ℤ)
    → StandsAs inst given g → g ≡ Kept score → IfSome score (λ z. unsigned_abs z < 10 ^ 36)
kept_small inst given g score stands is =
    let k : StandsAs inst given (Kept score) = subst (StandsAs inst given) is stands in k.2

-- ---- what is answered on a certificate

-- the checker's verdict on what a certificate claims
pub record Verdict (inst : Tables) (claim : Claim) (verdict : CertVerdict) : Type 0 where
  pub right : IsVerdictOn risk_value inst claim verdict
  pub only : (other : CertVerdict) → IsVerdictOn risk_value inst claim other → other ≡ verdict
  pub bounds : verdict ≡ Valid → BoundsPlans risk_value inst claim.bound

not_valid : (n : ℕ) → Valid ≡ LeafFails n → ⊥
not_valid n e = cc

same_leaf : (n m : ℕ) → LeafFails m ≡ LeafFails n → m ≡ n
same_leaf n m e = cc

pub valid_checks : (inst : Tables) (score : Option ℤ) (claim : Claim) (verdict : CertVerdict) (text : List ℕ)
    → verdict ≡ Valid → Verdict inst claim verdict → CostIsJustAboveScore inst
    → text ≡ accepted_text inst claim.bound score
    → ChecksFor inst score claim 0 text
valid_checks inst score claim verdict text is v costs report given keeps same =
    let right : IsProved risk_value inst claim = subst (IsVerdictOn risk_value inst claim) is v.right in
    subst (λ (t : List ℕ). ChecksClaim inst given claim (reply 0 t))
    (sym (report ∙ ap (accepted_text inst claim.bound) same))
    (accepted (record {
      valid = right;
      holds = λ n first. not_valid n (sym (v.only (LeafFails n) first ∙ is));
      bounds = bounds_every inst claim.bound (v.bounds is);
      costs = costs;
      keeps = keeps;
    }))

pub leaf_checks : (inst : Tables) (score : Option ℤ) (claim : Claim) (verdict : CertVerdict)
    (n : ℕ) (text : List ℕ)
    → verdict ≡ LeafFails n → Verdict inst claim verdict → text ≡ failing_leaf_line n
    → ChecksFor inst score claim 5 text
leaf_checks inst score claim verdict n text is v report given keeps same =
    let right : IsFirstUnproved risk_value inst claim n = subst (IsVerdictOn risk_value inst claim) is v.right in
    subst (λ (t : List ℕ). ChecksClaim inst given claim (reply 5 t)) (sym report)
    (failing_leaf n (record {
      first = right;
      only = λ m first. same_leaf n m (v.only (LeafFails m) first ∙ is);
      invalid = λ valid. not_valid n (v.only Valid valid ∙ is);
      keeps = keeps;
    }))

-- the runs of a plan that breaks no rule are allowed
pub allowed_runs : (inst : Tables) (plan seen other : List (Option ℕ)) → length plan ≡ length inst.names → seen ≡ plan
    → other ≡ plan → first_rule inst seen ≡ None → RunsAreAllowed inst other
unfolding first_rule
allowed_runs inst plan seen other each same also none =
    let here : first_rule inst plan ≡ None = subst (λ (p : List (Option ℕ)). first_rule inst p ≡ None) same none in
    subst (RunsAreAllowed inst) (sym also)
    (RunsAreAllowed-from_none inst plan each (or_else-none (first_start_rule inst plan) _ here).0)
