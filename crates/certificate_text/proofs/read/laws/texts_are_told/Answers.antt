use Rattle.certificate_text.proofs.ReadToldLemmas.{texts_are_told}
use Rattle.certificate_text.proofs.read.laws.texts_are_told.Goals as goal

pub returns : goal.returns
returns c = record { told = texts_are_told c.lead_to_certificates.ensures.led }
