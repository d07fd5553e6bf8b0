use Rattle.command_frame.proofs.PlainLemmas.{lawful}
use Rattle.command_frame.proofs.plain.CertificateFileCertificate.laws.Goals as goal

pub returns : goal.returns
returns c = lawful c.args.inst.now c.fits.ensures c.texts_tell.ensures.texts c.lists_bound_boxes.ensures
