use Rattle.std.proofs.Common.{arith}
use Rattle.price_ladder.proofs.ChoiceLemmas.{choice_none, choice_more, choice_all}
use Rattle.price_ladder.proofs.choice.least_starts.Goals as goal

pub loop-i-init : goal.loop-i-init
loop-i-init c = choice_none c.args.inst.now c.args.entries.now _ c.in_ok-choice.ensures.items

pub loop-i-preserved : goal.loop-i-preserved
loop-i-preserved c =
    choice_more c.args.inst.now c.args.entries.now c.loop-i.i c.loop-i.choice.items _ c.least_start.result
    c.loop-i.invariant c.in_ok-push.ensures.items c.least_start.ensures

pub returns : goal.returns
returns c = choice_all c.args.inst.now c.args.entries.now c.loop-i.i c.loop-i.choice.items (omega arith)
    c.loop-i.invariant
