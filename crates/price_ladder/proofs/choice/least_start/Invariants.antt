use Rattle.price_ladder.proofs.ChoiceLemmas.{IsLeastTo}
use Rattle.price_ladder.proofs.choice.least_start.Given as goal

abbrev pub invariant-loop-s : goal.invariant-loop-s
invariant-loop-s l = IsLeastTo l.inst l.entries l.i l.best l.s
