-- Laws of texts.
use Rattle.std.specs.Prelude.{ℕ, List}
use Rattle.instance_model.specs.Tables.{Tables}
use Rattle.certificate_tree.specs.declared.certificate.Certificate.{Certificate}
use Rattle.certificate_text.specs.declared.read.fault.CertFault.{CertFault}
use Rattle.certificate_text.specs.read.Faults.{HasCertFault, IsTextOf}

-- a text is that of a certificate, or has a fault: it can't be without both
abbrev pub TextsAreTold : Type 0
TextsAreTold = (inst : Tables) (bytes : List ℕ) → ((cert : Certificate) → IsTextOf inst bytes cert → ⊥)
    → ((fault : CertFault) → HasCertFault inst bytes fault → ⊥) → ⊥
