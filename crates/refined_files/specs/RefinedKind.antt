-- The kind of certificates by refined price lists: a text of any version is read, and one of version 3 is written.
use Rattle.refined_check.specs.declared.certificate.certificate.RefinedCertificate.{RefinedCertificate}
use Rattle.refined_check.specs.certificate.Ranges.{IsRefinedInRange}
use Rattle.refined_check.specs.Validity.{refined_claim}
use Rattle.refined_text.specs.versions.AnyTexts.{IsAnyText, HasAnyFault}
use Rattle.refined_text.specs.text.Text.{refined_text}
use Rattle.command_frame.specs.Kinds.{CertificateKind}

abbrev pub refined_kind : CertificateKind RefinedCertificate
refined_kind =
    record {
      texts = record { is_text = IsAnyText; has_fault = HasAnyFault };
      range = IsRefinedInRange;
      claim = refined_claim;
      text = refined_text;
      remade = λ cert bound nodes. record cert { bound = bound; nodes = nodes };
    }
