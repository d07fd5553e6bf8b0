use Rattle.std.proofs.Common.{◌∙◌, ap, arith, pos, ℤ, ◌+ℤ◌, ◌-ℤ◌}
use Rattle.std.specs.Int.{int_max}
use Rattle.fixed_num.specs.Floors.{floor_of, ceil_of}
use Rattle.fixed_num.proofs.SignedLemmas.{back_from_abs}
use Rattle.plan_score.proofs.EnclosureLemmas.{sum_is, sum_small}
use Rattle.plan_score.proofs.enclosure.Enclosure.add_above_zero.Goals as goal

pub returns-clause-low : goal.returns-clause-low
returns-clause-low c =
    sum_is c.args.self.now.low c.floor_above_zero.result (omega (arith, c.requires.low)) (omega
    (arith, c.floor_above_zero.ensures.small))
    ∙ ap (λ (x : ℤ). c.args.self.now.low +ℤ x)
    (c.floor_above_zero.ensures.value ∙ ap (λ (x : ℤ). int_max (pos 0) (floor_of x c.args.n -ℤ pos c.args.margin))
    (back_from_abs c.args.value (omega (arith, c.requires.value))))

pub returns-clause-high : goal.returns-clause-high
returns-clause-high c =
    sum_is c.args.self.now.high c.ceil_and_more.result (omega (arith, c.requires.high)) (omega
    (arith, c.ceil_and_more.ensures.small))
    ∙ ap (λ (x : ℤ). c.args.self.now.high +ℤ x)
    (c.ceil_and_more.ensures.value ∙ ap (λ (x : ℤ). ceil_of x c.args.n +ℤ pos c.args.margin) (back_from_abs
    c.args.value (omega (arith, c.requires.value))))

pub returns-clause-low_small : goal.returns-clause-low_small
returns-clause-low_small c = sum_small c.args.self.now.low c.floor_above_zero.result (omega (arith, c.requires.low))
    c.floor_above_zero.ensures.small

pub returns-clause-high_small : goal.returns-clause-high_small
returns-clause-high_small c = sum_small c.args.self.now.high c.ceil_and_more.result (omega (arith, c.requires.high))
    c.ceil_and_more.ensures.small
