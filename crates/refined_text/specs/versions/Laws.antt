-- Laws of certificates of every version, and of their texts.
use Rattle.std.specs.Prelude.{◌≡◌, ◌↔◌, ℕ, List}
use Rattle.instance_model.specs.Tables.{Tables}
use Rattle.instance_model.specs.Fitting.{IsFitting}
use Rattle.lagrange_bound.specs.Goals.{risk_base, risk_value}
use Rattle.certificate_tree.specs.declared.certificate.Certificate.{Certificate}
use Rattle.certificate_tree.specs.Ranges.{IsInRange}
use Rattle.certificate_tree.specs.Validity.{IsValid, IsFirstFailing}
use Rattle.certificate_text.specs.declared.read.fault.CertFault.{CertFault}
use Rattle.certificate_text.specs.read.Faults.{IsTextOf}
use Rattle.refined_check.specs.declared.certificate.certificate.RefinedCertificate.{RefinedCertificate}
use Rattle.refined_check.specs.certificate.Ranges.{IsRefinedInRange}
use Rattle.refined_check.specs.Validity.{IsRefinedValid, IsRefinedFirstFailing}
use Rattle.refined_text.specs.read.Faults.{IsRefinedTextOf}
use Rattle.refined_text.specs.versions.Versions.{refined_certificate_of}
use Rattle.refined_text.specs.versions.AnyTexts.{IsAnyText, HasAnyFault}

-- ---- certificates of version 1 and 2, as they are told

-- one in range stays so
abbrev pub VersionsStayInRange : Type 0
VersionsStayInRange =
    (inst : Tables) (cert : Certificate) → IsInRange inst cert
    → IsRefinedInRange inst (refined_certificate_of inst cert)

-- one in range is valid where it is so as it is told, and nowhere else
abbrev pub VersionsProveAlike : Type 0
VersionsProveAlike =
    (inst : Tables) (cert : Certificate) → IsFitting inst → IsInRange inst cert
    → (IsValid risk_base risk_value inst cert ↔ IsRefinedValid inst (refined_certificate_of inst cert))

-- and the same leaf is the first that doesn't hold
abbrev pub VersionsFailAlike : Type 0
VersionsFailAlike =
    (inst : Tables) (cert : Certificate) (n : ℕ) → IsFitting inst → IsInRange inst cert
    → (IsFirstFailing risk_base risk_value inst cert n
    ↔ IsRefinedFirstFailing inst (refined_certificate_of inst cert) n)

-- ---- texts of certificates of every version

-- the text of a certificate in range, of whatever version, is one of that which it is told as
pub record EachTextIsTold : Type 0 where
  pub refined : (inst : Tables) (bytes : List ℕ) (cert : RefinedCertificate) → IsRefinedTextOf inst bytes cert
      → IsAnyText inst bytes cert
  pub older : (inst : Tables) (bytes : List ℕ) (cert : Certificate) → IsTextOf inst bytes cert
      → IsAnyText inst bytes (refined_certificate_of inst cert)

-- what a text is one of is in range
abbrev pub AnyTextsAreInRange : Type 0
AnyTextsAreInRange =
    (inst : Tables) (bytes : List ℕ) (cert : RefinedCertificate) → IsAnyText inst bytes cert
    → IsRefinedInRange inst cert

-- a text is one of one certificate
abbrev pub AnyTextsTell : Type 0
AnyTextsTell =
    (inst : Tables) (bytes : List ℕ) (a b : RefinedCertificate) → IsFitting inst → IsAnyText inst bytes a
    → IsAnyText inst bytes b → a ≡ b

-- and has no fault then
abbrev pub AnyTextsAreSound : Type 0
AnyTextsAreSound =
    (inst : Tables) (bytes : List ℕ) (cert : RefinedCertificate) (fault : CertFault) → IsFitting inst
    → IsAnyText inst bytes cert → HasAnyFault inst bytes fault → ⊥

-- a text is one of a certificate, or has a fault: it can't be without both
abbrev pub AnyTextsAreTold : Type 0
AnyTextsAreTold =
    (inst : Tables) (bytes : List ℕ) → ((cert : RefinedCertificate) → IsAnyText inst bytes cert → ⊥)
    → ((fault : CertFault) → HasAnyFault inst bytes fault → ⊥) → ⊥
