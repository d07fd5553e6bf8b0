use Rattle.std.proofs.Common.{length, arith}
use Rattle.refined_text.specs.text.Text.{refined_text}
use Rattle.command_bound.specs.Bounding.LeavesOut.{none, some}
use Rattle.command_bound.proofs.MadeLemmas.{not_within}
use Rattle.command_bound.proofs.within.raise_within.Goals as goal

pub loop-most-init : goal.loop-most-init
loop-most-init c = record { some = omega arith; left_out = none }

pub loop-most-preserved-else-fits : goal.loop-most-preserved-else-fits
loop-most-preserved-else-fits c = record {
  some = c.fewer_lists-most.ensures.least;
  left_out = some c.loop-most.most c.fewer_lists-most.result c.in_ok-raised.raised c.fewer_lists-most.ensures.least
      c.fewer_lists-most.ensures.fewer
      (record {
        is = c.in_ok-raised.ensures.raised;
        long = not_within c.fits.result (length (refined_text c.args.inst.now c.in_ok-raised.raised.cert))
            c.args.limits.now.certificate_bytes c.fits.ensures c.if-fits.false;
      });
}

pub loop-most-preserved : goal.loop-most-preserved
loop-most-preserved c = record {
  some = c.fewer_lists-most.ensures.least;
  left_out = some c.loop-most.most c.fewer_lists-most.result c.in_ok-raised.raised c.fewer_lists-most.ensures.least
      c.fewer_lists-most.ensures.fewer
      (record {
        is = c.in_ok-raised.ensures.raised;
        long = not_within c.fits.result (length (refined_text c.args.inst.now c.in_ok-raised.raised.cert))
            c.args.limits.now.certificate_bytes c.fits.ensures c.if-fits.false;
      });
}
