use Rattle.std.proofs.Common.{arith}
use Rattle.price_ladder.proofs.PhaseLemmas.{AreAllowedStarts-set}
use Rattle.price_ladder.proofs.ascent.choose.Goals as goal

pub loop-i-preserved : goal.loop-i-preserved
loop-i-preserved c =
    AreAllowedStarts-set c.args.inst.now c.loop-i.choice.items c.loop-i.i c.cheapest.result (omega arith)
    c.cheapest.ensures c.loop-i.invariant
