-- The answer of `roll`, as its parts make it.
use Rattle.std.proofs.Common.{◌≡◌, ℕ, ◌<◌, ◌≤◌, sym, ◌∙◌, ap, subst, List, length, Option, Some}
use Rattle.std.proofs.Common.{None, is_some}
use Rattle.std.specs.Prelude.{IsNone, ◌↔◌}
use Rattle.plan_desk.specs.Desk.{Shown}
use Rattle.plan_desk.specs.Contents.{KeepsFiles}
use Rattle.instance_model.specs.declared.limits.Limits.{Limits}
use Rattle.instance_model.specs.declared.rule.Rule.{Rule}
use Rattle.instance_model.specs.Tables.{Tables}
use Rattle.plan_roll.specs.Begun.{KeptAreAllowed, first_kept_rule}
use Rattle.plan_roll.specs.Texts.{rolled_text}
use Rattle.command_frame.specs.Reports.{infeasible_report}
use Rattle.command_frame.specs.Ending.{reply}
use Rattle.command_frame.specs.Refusals.{SaysOrFails}
use Rattle.command_frame.specs.Writing.{TellsAnswer}
use Rattle.command_frame.specs.Writing.TellsAnswer.{written as told_written}
use Rattle.command_frame.proofs.WriteLemmas.{puts_none}
use Rattle.command_roll.specs.Rolling.{RollFiles, Rolls, rolled_report}
use Rattle.command_roll.specs.Rolling.Rolls.{broken, too_long, written}
use Rattle.command_roll.specs.Made.{answer_of}
use Rattle.command_roll.specs.declared.roll.Outcome.TheVariants.{Broken, TooLong, Rolled}

-- ---- what is answered

-- what is known of a plan that was looked at: the rule, which is none exactly where each kept start is allowed
pub record IsLookedAt (inst : Tables) (plan : List (Option ℕ)) (period : ℕ) (rule : Option Rule) : Type 0 where
  pub rule_is : rule ≡ first_kept_rule inst plan period
  pub none : IsNone rule ↔ KeptAreAllowed inst plan period

pub looked_at : (inst : Tables) (plan seen : List (Option ℕ)) (period : ℕ) (found : Option Rule) → seen ≡ plan
    → found ≡ first_kept_rule inst seen period → (IsNone found ↔ KeptAreAllowed inst seen period)
    → IsLookedAt inst plan period found
looked_at inst plan seen period found same rule none =
    subst (λ (p : List (Option ℕ)). IsLookedAt inst p period found) same (record { rule_is = rule; none = none })

some_is_none : (rule : Rule) → IsNone (Some rule) → ⊥
some_is_none rule h = cc

pub broken_rolls : (limits : Limits) (inst : Tables) (plan : List (Option ℕ)) (period : ℕ) (found : Option Rule)
    (rule : Rule) (text : List ℕ) → IsLookedAt inst plan period found → found ≡ Some rule
    → text ≡ infeasible_report inst rule → (files : RollFiles)
    → Rolls limits inst plan period files (answer_of files inst plan period (Broken text))
broken_rolls limits inst plan period found rule text looked is says files =
    let refused : KeptAreAllowed inst plan period → ⊥ =
    λ all. some_is_none rule (subst (λ (o : Option Rule). IsNone o) is (looked.none.1 all)) in
    subst (λ (t : List ℕ). Rolls limits inst plan period files (reply 1 t)) (sym says)
    (broken rule refused (sym looked.rule_is ∙ is))

none_allowed : (inst : Tables) (plan : List (Option ℕ)) (period : ℕ) (found : Option Rule)
    → IsLookedAt inst plan period found → found ≡ None → KeptAreAllowed inst plan period
none_allowed inst plan period found looked is = looked.none.0 (ap is_some is)

pub long_rolls : (limits : Limits) (inst : Tables) (plan : List (Option ℕ)) (period : ℕ) (found : Option Rule)
    → IsLookedAt inst plan period found → found ≡ None
    → limits.instance_bytes < length (rolled_text inst plan period) → (files : RollFiles)
    → Rolls limits inst plan period files (answer_of files inst plan period TooLong)
long_rolls limits inst plan period found looked is long files =
    too_long (none_allowed inst plan period found looked is) long

pub whole_rolls : (limits : Limits) (inst : Tables) (plan : List (Option ℕ)) (period : ℕ) (found : Option Rule)
    (text : List ℕ) → IsLookedAt inst plan period found → found ≡ None
    → length (rolled_text inst plan period) ≤ limits.instance_bytes → text ≡ rolled_report inst plan period
    → (files : RollFiles) → Rolls limits inst plan period files (answer_of files inst plan period (Rolled text))
whole_rolls limits inst plan period found text looked is few says files =
    subst (λ (t : List ℕ). Rolls limits inst plan period files (answer_of files inst plan period (Rolled t))) (sym says)
    (written (none_allowed inst plan period found looked is) few)

-- ---- what is told

-- an answer that writes no file
pub reply_told : (due : ℕ) (text : List ℕ) (old new : Shown) (status : ℕ) → KeepsFiles old new
    → SaysOrFails due text old new status → TellsAnswer (reply due text) old new status
reply_told due text old new status keeps says = told_written old (puts_none {T = Unit {0}} tt old) keeps says
