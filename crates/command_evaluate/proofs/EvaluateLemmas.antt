-- The verdict on a plan, as an answer of `evaluate`.
use Rattle.std.proofs.Common.{◌≡◌, ℕ, List, Option, Some, None, true, false, sym, ◌∙◌, ap, subst}
use Rattle.std.specs.Prelude.{is_some}
use Rattle.plan_desk.specs.Desk.{Shown}
use Rattle.instance_model.specs.declared.limits.Limits.{Limits}
use Rattle.instance_model.specs.Tables.{Tables}
use Rattle.instance_model.specs.Rules.{first_rule}
use Rattle.instance_model.specs.declared.rule.Rule.{Rule}
use Rattle.instance_model.proofs.RuleLemmas.{KeepsRules-from, IsFeasible-from}
use Rattle.plan_score.specs.Values.{values_of}
use Rattle.plan_score.specs.Verdict.{IfFeasible, IfBroken}
use Rattle.plan_score.specs.declared.values.Values.{Values}
use Rattle.plan_score.specs.declared.verdict.Verdict.{Verdict}
use Rattle.plan_score.specs.declared.verdict.Verdict.TheVariants.{Feasible, Broken}
use Rattle.command_frame.specs.Sources.{Source}
use Rattle.command_frame.specs.Reports.{values_report, feasible_report, infeasible_report, NamesOf}
use Rattle.command_frame.specs.Ending.{Answer, reply}
use Rattle.command_frame.specs.Files.{reading, OnPlan, ReadsInstance, ReadsPlan}
use Rattle.command_answers.specs.Evaluate.{EnclosesEveryReading, Judges, AnswersEvaluate}
use Rattle.command_answers.specs.Evaluate.Judges.{feasible, infeasible}
use Rattle.command_frame.proofs.FileLemmas.{IsRead}
use Rattle.command_frame.proofs.ReadLemmas.{after_instance, after_plan}
use Rattle.command_frame.proofs.RuleNames.{rule_names}

pub evaluate_judges : (limits : Limits) (source : Source) (name : List ℕ) (old mid new : Shown) (inst : Tables)
    (plan : List (Option ℕ)) (a : Answer)
    → ReadsInstance limits source old inst → IsRead old mid
    → ReadsPlan limits name inst mid plan → Judges inst plan a
    → AnswersEvaluate limits (reading old new) source.slack source.instance name a
evaluate_judges limits source name old mid new inst plan a reads read reads_plan judges =
    after_instance limits source old new inst (λ i. OnPlan limits i (reading old new) 3 name (Judges i)) a reads
    (after_plan limits name old mid new inst plan (Judges inst) a read reads_plan judges)

-- ---- the verdict

pub broken_rule : (inst : Tables) (plan : List (Option ℕ)) (v : Verdict) (rule : Rule)
    → IfBroken v (λ r. first_rule inst plan ≡ Some r) → v ≡ Broken rule → first_rule inst plan ≡ Some rule
broken_rule inst plan v rule verdict is =
    subst (λ (x : Verdict). IfBroken x (λ r. first_rule inst plan ≡ Some r)) is verdict

pub broken_names : (inst : Tables) (plan : List (Option ℕ)) (v : Verdict) (rule : Rule)
    → IfBroken v (λ r. first_rule inst plan ≡ Some r) → v ≡ Broken rule → NamesOf inst rule
broken_names inst plan v rule verdict is = rule_names inst plan rule (broken_rule inst plan v rule verdict is)

some_breaks : (o : Option Rule) (rule : Rule) → o ≡ Some rule → is_some o ≡ false → ⊥
some_breaks o rule is none = apart (sym (ap is_some is) ∙ none)
  where
    apart : true ≡ false → ⊥
    apart h = cc

pub broken_judged : (inst : Tables) (plan seen : List (Option ℕ)) (v : Verdict) (rule : Rule) (text : List ℕ)
    → seen ≡ plan → IfBroken v (λ r. first_rule inst seen ≡ Some r) → v ≡ Broken rule
    → text ≡ infeasible_report inst rule → Judges inst plan (reply 1 text)
broken_judged inst plan seen v rule text same verdict is report =
    let first : first_rule inst seen ≡ Some rule = broken_rule inst seen v rule verdict is in
    let judges : Judges inst seen (reply 1 text) = subst (λ (t : List ℕ). Judges inst seen (reply 1 t)) (sym report)
    (infeasible rule (λ keeps. some_breaks (first_rule inst seen) rule first (IsFeasible-from inst seen keeps))
    first) in
    subst (λ (p : List (Option ℕ)). Judges inst p (reply 1 text)) same judges

-- what is known of the values of a feasible plan
pub record AreFound (inst : Tables) (plan : List (Option ℕ)) (values : Values) : Type 0 where
  pub none : first_rule inst plan ≡ None
  pub are : values ≡ values_of inst plan
  pub encloses : EnclosesEveryReading inst plan

pub feasible_found : (inst : Tables) (plan : List (Option ℕ)) (v : Verdict) (values : Values) → v ≡ Feasible values
    → IfFeasible v (λ w. first_rule inst plan ≡ None)
    → IfFeasible v (λ w. w ≡ values_of inst plan) → IfFeasible v (λ w. EnclosesEveryReading inst plan)
    → AreFound inst plan values
feasible_found inst plan v values is none are encloses =
    record {
      none = subst (λ (x : Verdict). IfFeasible x (λ w. first_rule inst plan ≡ None)) is none;
      are = subst (λ (x : Verdict). IfFeasible x (λ w. w ≡ values_of inst plan)) is are;
      encloses = subst (λ (x : Verdict). IfFeasible x (λ w. EnclosesEveryReading inst plan)) is encloses;
    }

pub feasible_judged : (inst : Tables) (plan seen : List (Option ℕ)) (values : Values) (text : List ℕ) → seen ≡ plan
    → AreFound inst seen values → text ≡ values_report inst.rounded values → Judges inst plan (reply 0 text)
feasible_judged inst plan seen values text same found report =
    let says : text ≡ feasible_report inst seen = report ∙ ap
    (λ (v : Values). values_report inst.rounded v) found.are in
    let judges : Judges inst seen (reply 0 text) = subst (λ (t : List ℕ). Judges inst seen (reply 0 t)) (sym says)
    (feasible (KeepsRules-from inst seen (ap is_some found.none)) found.encloses) in
    subst (λ (p : List (Option ℕ)). Judges inst p (reply 0 text)) same judges
