use Rattle.price_ladder.specs.Phase.{AreWorks}
use Rattle.price_ladder.proofs.work.push_works.Given as goal

abbrev pub invariant-loop-cell : goal.invariant-loop-cell
invariant-loop-cell l = AreWorks l.inst l.works.items
