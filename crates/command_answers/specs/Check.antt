-- The answer of `check` to an instance, a plan that may be left out and a certificate, and what an accepted certificate
-- says.
use Rattle.std.specs.Prelude.{◌≡◌, ℕ, ◌*◌, ⊤, ℤ, pos, ◌+ℤ◌, ◌≤ℤ◌, ◌<ℤ◌, List, length, Option, Some, None}
use Rattle.instance_model.specs.declared.limits.Limits.{Limits}
use Rattle.instance_model.specs.Tables.{Tables}
use Rattle.instance_model.specs.Values.{numerator_of, score_of}
use Rattle.instance_model.specs.Exact.{scenario_product, sum_of_quotients, CostIsJustAboveScore}
use Rattle.instance_model.specs.Rules.{first_rule, KeepsRules}
use Rattle.instance_model.specs.declared.rule.Rule.{Rule}
use Rattle.lagrange_bound.specs.Goals.{risk_base, risk_value}
use Rattle.certificate_lines.specs.declared.line.Bound.{Bound}
use Rattle.certificate_lines.specs.declared.line.Bound.TheVariants.{NoPlan, Least}
use Rattle.certificate_tree.specs.declared.certificate.Certificate.{Certificate}
use Rattle.certificate_tree.specs.Validity.{Claim, claim_of, IsProved, IsFirstUnproved}
use Rattle.command_frame.specs.Lines.{failing_leaf_line}
use Rattle.command_frame.specs.Reports.{infeasible_report, accepted_report}
use Rattle.command_frame.specs.Ending.{Answer, reply}
use Rattle.command_frame.specs.Files.{Meeting, OnInstance, OnGiven, OnCertificateBy}
use Rattle.command_frame.specs.Kinds.{CertificateKind, plain_kind}

-- ---- what an accepted certificate says

-- one start or none for each intervention, and the plan keeps the rules
pub record IsKeptPlan (inst : Tables) (plan : List (Option ℕ)) : Type 0 where
  pub each : length plan ≡ length inst.names
  pub keeps : KeepsRules inst plan

-- every plan that keeps the rules has a score of at least the bound; where that is none, no plan keeps the rules
pub record BoundsEveryPlan (inst : Tables) (bound : Bound) : Type 0 where
  pub least : (b : ℤ) → bound ≡ Least b → (plan : List (Option ℕ)) → IsKeptPlan inst plan → b ≤ℤ score_of inst plan
  pub none : bound ≡ NoPlan → (plan : List (Option ℕ)) → IsKeptPlan inst plan → ⊥

-- the exact cost of a plan as a whole number, of which T * 10^18 times the product of all numbers of scenarios make a
-- cost of 1
abbrev pub exact_cost : Tables → List (Option ℕ) → ℤ
exact_cost inst plan = sum_of_quotients inst (numerator_of inst plan)

-- no plan that keeps the rules has a lower score, and none costs less by 10^-18 or more
pub record IsBest (inst : Tables) (plan : List (Option ℕ)) : Type 0 where
  pub score : (other : List (Option ℕ)) → IsKeptPlan inst other → score_of inst plan ≤ℤ score_of inst other
  pub cost : (other : List (Option ℕ)) → IsKeptPlan inst other
      → exact_cost inst plan <ℤ (exact_cost inst other +ℤ pos (inst.periods * scenario_product inst))

-- a plan that was given keeps the rules
abbrev pub GivenKeeps : Tables → Option (List (Option ℕ)) → Type 0
GivenKeeps inst None = ⊤
GivenKeeps inst (Some plan) = IsKeptPlan inst plan

-- ---- the answer

-- the claim of a certificate is proved: no leaf fails, and its bound holds for every plan, also for one that was given
pub record IsAcceptedClaim (inst : Tables) (given : Option (List (Option ℕ))) (claim : Claim) : Type 0 where
  pub valid : IsProved risk_value inst claim
  pub holds : (n : ℕ) → IsFirstUnproved risk_value inst claim n → ⊥
  pub bounds : BoundsEveryPlan inst claim.bound
  pub costs : CostIsJustAboveScore inst
  pub keeps : GivenKeeps inst given

-- a plan was given, it does not keep the rules, and this is the first rule that it breaks
pub record IsBroken (inst : Tables) (given : Option (List (Option ℕ))) (rule : Rule) : Type 0 where
  pub plan : List (Option ℕ)
  pub given_is : given ≡ Some plan
  pub not_kept : KeepsRules inst plan → ⊥
  pub first : first_rule inst plan ≡ Some rule

-- leaf n is the first that doesn't hold, and a plan that was given keeps the rules
pub record IsRefusedClaim (inst : Tables) (given : Option (List (Option ℕ))) (claim : Claim) (n : ℕ) : Type 0 where
  pub first : IsFirstUnproved risk_value inst claim n
  pub only : (m : ℕ) → IsFirstUnproved risk_value inst claim m → m ≡ n
  pub invalid : IsProved risk_value inst claim → ⊥
  pub keeps : GivenKeeps inst given

-- to an instance, a plan if one is given, and what a certificate claims: 1 with the first broken rule of the plan,
-- where there is one; else 0 where the claim is proved, and 5 with the first leaf that doesn't hold
pub data ChecksClaim (inst : Tables) (given : Option (List (Option ℕ))) (claim : Claim) : Answer → Type 0 where
  broken_plan : (rule : Rule) → IsBroken inst given rule
      → ChecksClaim inst given claim (reply 1 (infeasible_report inst rule))
  failing_leaf : (n : ℕ) → IsRefusedClaim inst given claim n
      → ChecksClaim inst given claim (reply 5 (failing_leaf_line n))
  accepted : IsAcceptedClaim inst given claim
      → ChecksClaim inst given claim (reply 0 (accepted_report inst claim.bound given))

-- to an instance, a plan if one is given, and a certificate of a kind
abbrev pub ChecksBy : {C : Type 0} → CertificateKind C → Tables → Option (List (Option ℕ)) → C → Answer → Type 0
ChecksBy kind inst given cert = ChecksClaim inst given (kind.claim inst cert)

-- to the files, with a slack in 10^-12: the instance is word 2, the plan word 3, and the certificate word 4
abbrev pub AnswersCheckBy : {C : Type 0} → CertificateKind C → Limits → Meeting → ℕ → (instance : List ℕ)
    → (plan : Option (List ℕ)) → (cert : List ℕ) → Answer → Type 0
AnswersCheckBy kind limits met slack instance plan cert = OnInstance limits slack met 2 instance
    (λ inst. OnGiven limits inst met 3 plan
    (λ p. OnCertificateBy kind.texts limits inst met 4 cert (ChecksBy kind inst p)))

-- ---- certificates of versions 1 and 2

-- the certificate is valid: no leaf fails, and its bound holds for every plan, also for one that was given
abbrev pub IsAccepted : Tables → Option (List (Option ℕ)) → Certificate → Type 0
IsAccepted inst given cert = IsAcceptedClaim inst given (claim_of risk_base inst cert)

-- to an instance, a plan if one is given, and a certificate: 1 with the first broken rule of the plan, where there is
-- one; else 0 where the certificate is valid, and 5 with the first leaf that doesn't hold
abbrev pub Checks : Tables → Option (List (Option ℕ)) → Certificate → Answer → Type 0
Checks = ChecksBy plain_kind

-- to the files, with a slack in 10^-12: the instance is word 2, the plan word 3, and the certificate word 4
abbrev pub AnswersCheck : Limits → Meeting → ℕ → (instance : List ℕ) → (plan : Option (List ℕ)) → (cert : List ℕ)
    → Answer → Type 0
AnswersCheck = AnswersCheckBy plain_kind
