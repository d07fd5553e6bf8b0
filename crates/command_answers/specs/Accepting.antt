-- Certificates that `check` without a plan accepts, and those that `audit` does.
use Rattle.std.specs.Prelude.{ℕ, ◌<◌, ◌≤◌, List, length, Option, None}
use Rattle.instance_model.specs.declared.limits.Limits.{Limits}
use Rattle.instance_model.specs.Limits.{standard_limits}
use Rattle.instance_model.specs.Tables.{Tables}
use Rattle.lagrange_bound.specs.Goals.{risk_value}
use Rattle.certificate_tree.specs.declared.certificate.Certificate.{Certificate}
use Rattle.certificate_tree.specs.Ranges.{IsInRange}
use Rattle.certificate_tree.specs.Validity.{IsProved}
use Rattle.certificate_text.specs.Text.{certificate_text}
use Rattle.command_frame.specs.Reports.{accepted_report}
use Rattle.command_frame.specs.Ending.{reply}
use Rattle.command_frame.specs.Files.{by_bytes, OnCertificateBy, OnCertificate}
use Rattle.command_frame.specs.Kinds.{CertificateKind, plain_kind}
use Rattle.command_answers.specs.Check.{BoundsEveryPlan, IsAcceptedClaim, ChecksBy}
use Rattle.command_answers.specs.Audit.{BoundsEveryRepair, IsValidFor, audited_report, Audits}

-- ---- `check`

-- `check` without a plan accepts the text of the certificate for this instance; the certificate is in range, and its
-- bound holds for every plan
pub record IsCheckableBy {C : Type 0} (kind : CertificateKind C) (limits : Limits) (inst : Tables) (cert : C)
    : Type 0 where
  pub in_range : kind.range inst cert
  pub accepted : OnCertificateBy kind.texts limits inst by_bytes 4 (kind.text inst cert) (ChecksBy kind inst None)
      (reply 0 (accepted_report inst (kind.claim inst cert).bound None))
  pub bounds : BoundsEveryPlan inst (kind.claim inst cert).bound

-- a valid certificate whose text is within that limit, so that it may be read
pub record IsValidWithinBy {C : Type 0} (kind : CertificateKind C) (limits : Limits) (inst : Tables) (cert : C)
    : Type 0 where
  pub in_range : kind.range inst cert
  pub valid : IsProved risk_value inst (kind.claim inst cert)
  pub within : length (kind.text inst cert) ≤ limits.certificate_bytes

-- `check` without a plan accepts a certificate and its text
pub record IsAcceptableBy {C : Type 0} (kind : CertificateKind C) (limits : Limits) (inst : Tables) (cert : C)
    : Type 0 where
  pub checkable : IsCheckableBy kind limits inst cert
  pub accepted : IsAcceptedClaim inst None (kind.claim inst cert)

-- it does so for each of those
abbrev pub ValidWithinIsAcceptableBy : {C : Type 0} → CertificateKind C → Tables → Type 0
ValidWithinIsAcceptableBy {C = C} kind inst =
    (limits : Limits) (cert : C) → IsValidWithinBy kind limits inst cert → IsAcceptableBy kind limits inst cert

-- ---- `check` of certificates of versions 1 and 2

abbrev pub IsCheckable : Limits → Tables → Certificate → Type 0
IsCheckable = IsCheckableBy plain_kind

-- the same of a certificate whose text is shorter than the limit of certificate files
pub record IsShortCheckable (limits : Limits) (inst : Tables) (cert : Certificate) : Type 0 where
  pub checkable : IsCheckable limits inst cert
  pub short : length (certificate_text inst cert) < limits.certificate_bytes

-- a valid certificate whose text is within that limit
abbrev pub IsValidWithin : Limits → Tables → Certificate → Type 0
IsValidWithin = IsValidWithinBy plain_kind

-- `check` without a plan accepts a certificate and its text
abbrev pub IsAcceptable : Limits → Tables → Certificate → Type 0
IsAcceptable = IsAcceptableBy plain_kind

-- ---- `audit`

-- `audit` accepts the text of the certificate for this instance and plan, and it is shorter than the limit of
-- certificate files; the certificate is in range, and its bound holds for every plan
pub record IsAuditable (limits : Limits) (inst : Tables) (old : List (Option ℕ)) (cert : Certificate) : Type 0 where
  pub in_range : IsInRange inst cert
  pub accepted : OnCertificate limits inst by_bytes 4 (certificate_text inst cert) (Audits inst old)
      (reply 0 (audited_report inst cert.bound))
  pub bounds : BoundsEveryRepair inst old cert.bound
  pub short : length (certificate_text inst cert) < limits.certificate_bytes

-- a valid certificate whose text is shorter than the limit of certificate files
pub record IsShortValidFor (inst : Tables) (old : List (Option ℕ)) (cert : Certificate) : Type 0 where
  pub in_range : IsInRange inst cert
  pub valid : IsValidFor inst old cert
  pub short : length (certificate_text inst cert) < standard_limits.certificate_bytes

-- `audit` accepts each of those and its text
abbrev pub ShortValidIsAuditable : Tables → List (Option ℕ) → Type 0
ShortValidIsAuditable inst old = (cert : Certificate) → IsShortValidFor inst old cert
    → IsAuditable standard_limits inst old cert
