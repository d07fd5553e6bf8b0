use Rattle.std.proofs.Common.{IsTrue}
use Rattle.instance_model.specs.Tables.{is_allowed}
use Rattle.price_ladder.proofs.ascent.cheapest.Given as goal

abbrev pub invariant-loop-s : goal.invariant-loop-s
invariant-loop-s l = IsTrue (is_allowed l.inst l.i l.best)
