use Rattle.instance_model.specs.Plans.{AreAllowedStarts}
use Rattle.price_ladder.proofs.ascent.choose.Given as goal

abbrev pub invariant-loop-i : goal.invariant-loop-i
invariant-loop-i l = AreAllowedStarts l.inst l.choice.items
