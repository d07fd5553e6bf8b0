use Rattle.std.proofs.Common.{subst, sym}
use Rattle.instance_model.specs.Fitting.{IsFitting}
use Rattle.small_instances.proofs.SketchLemmas.{fitting_from}
use Rattle.small_instances.proofs.sketch.instance.Goals as goal

pub from_parts-requires : goal.from_parts-requires
from_parts-requires c = record {
  fits = subst IsFitting (sym c.in_ok-parts.ensures.tables) (fitting_from c.args.sketch.now c.requires);
}
