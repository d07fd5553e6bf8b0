use Rattle.certificate_text.proofs.ReadFitLemmas.{AscendSoFar}
use Rattle.certificate_text.proofs.read.fits.ascend_to.Given as goal

abbrev pub invariant-loop-place : goal.invariant-loop-place
invariant-loop-place l = AscendSoFar l.most l.places l.place-index l.last
