-- The bytes of the files of a check have one answer.
use Rattle.std.proofs.Common.{◌≡◌, ℕ, List, Option, Some, refl, sym, ◌∙◌, ap, subst}
use Rattle.instance_model.specs.declared.limits.Limits.{Limits}
use Rattle.instance_model.specs.Tables.{Tables}
use Rattle.instance_model.specs.Rules.{first_rule, KeepsRules}
use Rattle.instance_model.specs.declared.rule.Rule.{Rule}
use Rattle.certificate_tree.specs.Validity.{Claim}
use Rattle.command_frame.specs.Lines.{failing_leaf_line}
use Rattle.command_frame.specs.Reports.{infeasible_report}
use Rattle.command_frame.specs.Ending.{reply, IsOneAnswer}
use Rattle.command_frame.specs.Files.{by_bytes, OnGiven, OnCertificateBy}
use Rattle.command_frame.specs.Kinds.{CertificateKind}
use Rattle.command_answers.specs.Check.{GivenKeeps, IsBroken, ChecksClaim, ChecksBy, AnswersCheckBy}
use Rattle.command_answers.specs.Check.ChecksClaim.{broken_plan, failing_leaf, accepted}
use Rattle.command_frame.proofs.AnswerLemmas.{one_rule, instance_once, certificate_once, given_once}

-- ---- one answer for what was read

-- a plan that was given keeps the rules, or not
pub kept_or_broken : (inst : Tables) (given : Option (List (Option ℕ))) (plan : List (Option ℕ)) → GivenKeeps inst given
    → given ≡ Some plan → KeepsRules inst plan
kept_or_broken inst given plan keeps is = (subst (GivenKeeps inst) is keeps).keeps

same_plan : (given : Option (List (Option ℕ))) (a b : List (Option ℕ)) → given ≡ Some a → given ≡ Some b → a ≡ b
same_plan given a b e f = let g : Some a ≡ Some b = sym e ∙ f in cc

one_broken : (inst : Tables) (given : Option (List (Option ℕ))) (a b : Rule) → IsBroken inst given a
    → IsBroken inst given b → a ≡ b
one_broken inst given a b x y =
    one_rule (first_rule inst y.plan) a b
    (subst (λ (p : List (Option ℕ)). first_rule inst p ≡ Some a)
    (same_plan given x.plan y.plan x.given_is y.given_is) x.first) y.first

checked_once : (inst : Tables) (given : Option (List (Option ℕ))) (claim : Claim)
    → IsOneAnswer (ChecksClaim inst given claim)
checked_once inst given claim a b (broken_plan r x) (broken_plan q y) =
    ap (λ z. reply 1 (infeasible_report inst z)) (one_broken inst given r q x y)
checked_once inst given claim a b (broken_plan r x) (failing_leaf m y) =
    absurd (x.not_kept (kept_or_broken inst given x.plan y.keeps x.given_is))
checked_once inst given claim a b (broken_plan r x) (accepted y) =
    absurd (x.not_kept (kept_or_broken inst given x.plan y.keeps x.given_is))
checked_once inst given claim a b (failing_leaf k x) (broken_plan q y) =
    absurd (y.not_kept (kept_or_broken inst given y.plan x.keeps y.given_is))
checked_once inst given claim a b (failing_leaf k x) (failing_leaf m y) =
    ap (λ z. reply 5 (failing_leaf_line z)) (y.only k x.first)
checked_once inst given claim a b (failing_leaf k x) (accepted y) = absurd (x.invalid y.valid)
checked_once inst given claim a b (accepted x) (broken_plan q y) =
    absurd (y.not_kept (kept_or_broken inst given y.plan x.keeps y.given_is))
checked_once inst given claim a b (accepted x) (failing_leaf m y) = absurd (y.invalid x.valid)
checked_once inst given claim a b (accepted x) (accepted y) = refl

-- ---- one answer for the bytes of the files

pub checked_files_once : {C : Type 0} (kind : CertificateKind C) (limits : Limits) (slack : ℕ) (instance : List ℕ)
    (plan : Option (List ℕ)) (cert : List ℕ)
    → IsOneAnswer (AnswersCheckBy kind limits by_bytes slack instance plan cert)
checked_files_once kind limits slack instance plan cert =
    instance_once limits slack 2 instance
    (λ inst. OnGiven limits inst by_bytes 3 plan
    (λ p. OnCertificateBy kind.texts limits inst by_bytes 4 cert (ChecksBy kind inst p)))
    (λ inst. given_once limits inst 3 plan
    (λ p. OnCertificateBy kind.texts limits inst by_bytes 4 cert (ChecksBy kind inst p))
    (λ p. certificate_once limits inst 4 cert (ChecksBy kind inst p) (λ c. checked_once inst p (kind.claim inst c))))
