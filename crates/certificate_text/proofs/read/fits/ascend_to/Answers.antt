use Rattle.std.proofs.Common.{refl, arith}
use Rattle.certificate_text.proofs.ReadFitLemmas.{ascend_more, ascend_end}
use Rattle.certificate_text.proofs.read.fits.ascend_to.Goals as goal

pub loop-place-preserved : goal.loop-place-preserved
loop-place-preserved c = ascend_more c.args.most c.args.places.now c.loop-place.place-index c.loop-place.last
    c.loop-place.invariant c.loop-place-test.true (omega (arith, c.if-place-last.false))
    (omega (arith, c.if-place-from.false, c.from.ensures))

pub returns : goal.returns
returns c = (
  λ e. ascend_end c.args.most c.args.places.now c.loop-place.place-index c.loop-place.last c.loop-place.invariant
      (omega (arith, c.loop-place-test.false)),
  λ w. refl,
)
