use Rattle.std.proofs.Common.{◌∙◌, sym}
use Rattle.price_ladder.proofs.TriedLemmas.{falls_short}
use Rattle.price_ladder.proofs.PlainLemmas.{tail_failed}
use Rattle.price_ladder.proofs.plain.try_switch.Goals as goal

pub set_tail-requires-2-clause-tail : goal.set_tail-requires-2-clause-tail
set_tail-requires-2-clause-tail c =
    λ some e. c.requires.prices.tails c.args.t c.requires.from c.requires.to some (sym c.requires.before ∙ e)

pub returns : goal.returns
returns c =
    tail_failed c.args.inst.now c.args.prices.now c.set_tail.new.self c.set_tail-2.new.self c.args.t c.args.before
    c.args.tail c.args.target c.requires.before c.set_tail.ensures.changed c.set_tail-2.ensures.changed
    (falls_short c.args.inst.now c.set_tail.new.self c.args.target c.in_ok-root_worth.field-0 c.ranges.target
    c.in_ok-root_worth.ensures.small c.if-branch-target.false c.in_ok-root_worth.ensures.value)
