use Rattle.refined_files.proofs.KindLemmas.{lawful}
use Rattle.refined_files.proofs.versioned.VersionedCertificateFileCertificate.laws.Goals as goal

pub returns : goal.returns
returns c =
    let texts = c.any_texts_tell.ensures in
    lawful c.args.inst.now c.fits.ensures c.refined_lists_bound_boxes.ensures texts.each texts.one texts.sound
