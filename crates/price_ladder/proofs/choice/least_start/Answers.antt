use Rattle.std.proofs.Common.{arith}
use Rattle.price_ladder.proofs.ChoiceLemmas.{least_none, least_more, least_all}
use Rattle.price_ladder.proofs.choice.least_start.Goals as goal

pub loop-s-init : goal.loop-s-init
loop-s-init c = least_none c.args.inst.now c.args.entries.now c.args.i c.args.allowed c.requires.allowed

pub loop-s-preserved : goal.loop-s-preserved
loop-s-preserved c =
    least_more c.args.inst.now c.args.entries.now c.args.i c.loop-s.best c.better_start-best.result c.loop-s.s
    c.loop-s.invariant c.better_start-best.ensures.allowed c.better_start-best.ensures.before
    c.better_start-best.ensures.here

pub returns : goal.returns
returns c = least_all c.args.inst.now c.args.entries.now c.args.i c.loop-s.best c.loop-s.s (omega arith)
    c.loop-s.invariant
