use Rattle.price_ladder.proofs.ChoiceLemmas.{AreLeastTo}
use Rattle.price_ladder.proofs.choice.least_starts.Given as goal

abbrev pub invariant-loop-i : goal.invariant-loop-i
invariant-loop-i l = AreLeastTo l.inst l.entries l.i l.choice.items
