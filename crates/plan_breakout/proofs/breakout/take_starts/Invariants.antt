use Rattle.instance_model.specs.Plans.{AreAllowedStarts}
use Rattle.plan_breakout.proofs.breakout.take_starts.Given as goal

abbrev pub invariant-loop-i : goal.invariant-loop-i
invariant-loop-i l = AreAllowedStarts l.inst l.starts.items
