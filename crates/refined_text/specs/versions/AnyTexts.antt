-- Which certificate by refined price lists a text of any version is one of, and which fault a text has that is one of
-- none.
use Rattle.std.specs.Prelude.{◌≡◌, ℕ, Bool, ◌==◌, List, MatchBool, codes}
use Rattle.std.specs.List.{starts_with}
use Rattle.instance_model.specs.Tables.{Tables}
use Rattle.certificate_tree.specs.declared.certificate.Certificate.{Certificate}
use Rattle.certificate_text.specs.declared.read.fault.CertFault.{CertFault}
use Rattle.certificate_text.specs.read.Faults.{HasCertFault, IsTextOf}
use Rattle.refined_check.specs.declared.certificate.certificate.RefinedCertificate.{RefinedCertificate}
use Rattle.refined_text.specs.read.Faults.{HasRefinedCertFault, IsRefinedTextOf}
use Rattle.refined_text.specs.versions.Versions.{refined_certificate_of}

-- the bytes begin as a text of version 3 does
abbrev pub begins_refined : List ℕ → Bool
begins_refined bytes = starts_with (λ a b. a == b) bytes (codes "mpcert 3")

-- the bytes are the text of a certificate of version 1 or 2 that is told as this one
pub record IsOlderText (inst : Tables) (bytes : List ℕ) (cert : RefinedCertificate) : Type 0 where
  pub older : Certificate
  pub text : IsTextOf inst bytes older
  pub told : cert ≡ refined_certificate_of inst older

-- the bytes are a text of this certificate: of version 3 where they begin so, else of version 1 or 2
abbrev pub IsAnyText : Tables → List ℕ → RefinedCertificate → Type 0
IsAnyText inst bytes cert =
    MatchBool (begins_refined bytes) (IsRefinedTextOf inst bytes cert) (IsOlderText inst bytes cert)

-- the fault of a text: as one of version 3 where it begins so, else as one of version 1 or 2
abbrev pub HasAnyFault : Tables → List ℕ → CertFault → Type 0
HasAnyFault inst bytes fault =
    MatchBool (begins_refined bytes) (HasRefinedCertFault inst bytes fault) (HasCertFault inst bytes fault)
