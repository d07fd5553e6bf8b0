-- Laws of texts.
use Rattle.std.specs.Prelude.{ℕ, List}
use Rattle.instance_model.specs.Tables.{Tables}
use Rattle.certificate_text.specs.declared.read.fault.CertFault.{CertFault}
use Rattle.refined_check.specs.declared.certificate.certificate.RefinedCertificate.{RefinedCertificate}
use Rattle.refined_text.specs.read.Faults.{HasRefinedCertFault, IsRefinedTextOf}

-- a text is that of a certificate, or has a fault: it can't be without both
abbrev pub RefinedTextsAreTold : Type 0
RefinedTextsAreTold =
    (inst : Tables) (bytes : List ℕ) → ((cert : RefinedCertificate) → IsRefinedTextOf inst bytes cert → ⊥)
    → ((fault : CertFault) → HasRefinedCertFault inst bytes fault → ⊥) → ⊥
