use Rattle.group_ladder.specs.Search.{AreNumbers}
use Rattle.group_ladder.proofs.clique.grow.Given as goal

abbrev pub invariant-loop-j : goal.invariant-loop-j
invariant-loop-j l = AreNumbers l.inst l.members.items
