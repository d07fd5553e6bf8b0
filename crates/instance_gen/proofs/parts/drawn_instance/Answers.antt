use Rattle.std.proofs.Common.{subst, sym}
use Rattle.instance_model.specs.Fitting.{IsFitting}
use Rattle.instance_gen.proofs.FitLemmas.{fitting}
use Rattle.instance_gen.proofs.parts.drawn_instance.Goals as goal

pub from_parts-requires : goal.from_parts-requires
from_parts-requires c = record {
  fits = subst IsFitting (sym c.in_ok-parts.ensures.tables) (fitting c.args.seed c.args.n c.requires.few);
}
