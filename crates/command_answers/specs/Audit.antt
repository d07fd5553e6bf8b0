-- The answer of `audit` to an instance, a plan and a certificate, and what an accepted certificate says of the number
-- of changes from that plan.
use Rattle.std.specs.Prelude.{◌≡◌, ℕ, ◌≤◌, ℤ, List, length, map, ◌++◌, Option, Some, codes}
use Rattle.instance_model.specs.declared.limits.Limits.{Limits}
use Rattle.instance_model.specs.Tables.{Tables}
use Rattle.instance_model.specs.Rules.{KeepsRules}
use Rattle.certificate_lines.specs.declared.line.Bound.{Bound}
use Rattle.certificate_lines.specs.declared.line.Bound.TheVariants.{NoPlan, Least}
use Rattle.certificate_tree.specs.declared.certificate.Certificate.{Certificate}
use Rattle.certificate_tree.specs.Validity.{IsValid, IsFirstFailing}
use Rattle.plan_changes.specs.Changes.{changes_of, change_base, change_value, least_changes}
use Rattle.command_frame.specs.Lines.{numbered_line, failing_leaf_line}
use Rattle.command_frame.specs.Reports.{rounded_line}
use Rattle.command_frame.specs.Ending.{Answer, reply}
use Rattle.command_frame.specs.Files.{Meeting, OnInstance, OnPlan, OnCertificate}

-- ---- what a certificate says of the changes from a plan

-- one start for each intervention, and the plan of these starts keeps the rules
pub record AreKeptStarts (inst : Tables) (starts : List ℕ) : Type 0 where
  pub each : length starts ≡ length inst.names
  pub keeps : KeepsRules inst (map Some starts)

-- every plan that keeps the rules changes at least so many of the old starts as the bound says; where that is none, no
-- plan keeps the rules
pub record BoundsEveryRepair (inst : Tables) (old : List (Option ℕ)) (bound : Bound) : Type 0 where
  pub least : (b : ℤ) → bound ≡ Least b → (starts : List ℕ) → AreKeptStarts inst starts
      → least_changes b ≤ changes_of old starts
  pub none : bound ≡ NoPlan → (starts : List ℕ) → AreKeptStarts inst starts → ⊥

-- the certificate holds for the number of changes
abbrev pub IsValidFor : Tables → List (Option ℕ) → Certificate → Type 0
IsValidFor inst old cert = IsValid (change_base old) (change_value old) inst cert

-- leaf n is the first of its leaves that doesn't
abbrev pub FailsFirstFor : Tables → List (Option ℕ) → Certificate → ℕ → Type 0
FailsFirstFor inst old cert n = IsFirstFailing (change_base old) (change_value old) inst cert n

-- ---- reports

-- how many starts every plan changes at least that keeps the rules
abbrev pub least_line : Bound → List ℕ
least_line NoPlan = codes "least none\n"
least_line (Least b) = numbered_line (codes "least ") (least_changes b)

-- the report on an accepted certificate with this bound
abbrev pub audited_report : Tables → Bound → List ℕ
audited_report inst bound = codes "accepted\n" ++ (least_line bound ++ rounded_line inst.rounded)

-- ---- the answer

-- the certificate is valid: no leaf fails, and its bound holds for every plan
pub record IsAudited (inst : Tables) (old : List (Option ℕ)) (cert : Certificate) : Type 0 where
  pub valid : IsValidFor inst old cert
  pub holds : (n : ℕ) → FailsFirstFor inst old cert n → ⊥
  pub bounds : BoundsEveryRepair inst old cert.bound

-- leaf n of the certificate is the first that doesn't hold
pub record IsNotAudited (inst : Tables) (old : List (Option ℕ)) (cert : Certificate) (n : ℕ) : Type 0 where
  pub first : FailsFirstFor inst old cert n
  pub only : (m : ℕ) → FailsFirstFor inst old cert m → m ≡ n
  pub invalid : IsValidFor inst old cert → ⊥

-- to an instance, a plan and a certificate: 0 where the certificate is valid, and 5 with the first leaf that doesn't
-- hold
pub data Audits (inst : Tables) (old : List (Option ℕ)) (cert : Certificate) : Answer → Type 0 where
  accepted : IsAudited inst old cert → Audits inst old cert (reply 0 (audited_report inst cert.bound))
  failing_leaf : (n : ℕ) → IsNotAudited inst old cert n → Audits inst old cert (reply 5 (failing_leaf_line n))

-- to the files, with a slack in 10^-12: the instance is word 2, the plan word 3, and the certificate word 4
abbrev pub AnswersAudit : Limits → Meeting → ℕ → (instance plan cert : List ℕ) → Answer → Type 0
AnswersAudit limits met slack instance plan cert = OnInstance limits slack met 2 instance
    (λ inst. OnPlan limits inst met 3 plan (λ old. OnCertificate limits inst met 4 cert (Audits inst old)))
