use Rattle.price_ladder.specs.Phase.{AreWorks}
use Rattle.price_ladder.proofs.work.all_works.Given as goal

abbrev pub invariant-loop-i : goal.invariant-loop-i
invariant-loop-i l = AreWorks l.inst l.works.items
