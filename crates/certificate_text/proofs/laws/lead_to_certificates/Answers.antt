use Rattle.certificate_text.proofs.LedLemmas.{lead_to_certificates}
use Rattle.certificate_text.proofs.laws.lead_to_certificates.Goals as goal

pub returns : goal.returns
returns c = record { led = lead_to_certificates }
