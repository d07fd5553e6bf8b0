use Rattle.price_ladder.proofs.TriedLemmas.{falls_short}
use Rattle.price_ladder.proofs.PlainLemmas.{value_failed}
use Rattle.price_ladder.proofs.plain.PlainLadder.try_value.Goals as goal

pub returns-clause-tried : goal.returns-clause-tried
returns-clause-tried c =
    value_failed c.args.inst.now c.args.self.now.prices c.set_value.new.prices c.set_value-2.new.prices c.args.place
    c.args.v c.value_at-before.result c.args.target c.requires.prices c.in_ok-set_value.ensures.in_range
    c.in_ok-set_value-2.ensures.in_range c.in_ok-set_value.ensures.changed c.in_ok-set_value-2.ensures.changed
    c.value_at-before.ensures.value
    (falls_short c.args.inst.now c.set_value.new.prices c.args.target c.in_ok-root_worth.field-0 c.ranges.target
    c.in_ok-root_worth.ensures.small c.if-branch-target.false c.in_ok-root_worth.ensures.value)
