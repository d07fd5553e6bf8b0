use Rattle.std.proofs.Common.{arith, subst, ◌-◌}
use Rattle.decimal_numbers.specs.Tallies.{TailIs}
use Rattle.decimal_numbers.proofs.Tallying.{low_more, high_more, zero_more, zero_ends}
use Rattle.decimal_numbers.proofs.tally.Tail.push.Goals as goal

pub returns-in-Low : goal.returns-in-Low
returns-in-Low c w r h t = low_more w r (c.args.digit - 48) (omega arith) (subst (λ s. TailIs s w r) c.in-Low.is t)

pub returns-in-High : goal.returns-in-High
returns-in-High c w r h t = high_more w r (c.args.digit - 48) (omega arith) (subst (λ s. TailIs s w r) c.in-High.is t)

pub returns-then-digit-eq48 : goal.returns-then-digit-eq48
returns-then-digit-eq48 c w r h t =
    zero_more w r (c.args.digit - 48) (omega arith) (subst (λ s. TailIs s w r) c.in-Zero.is t)

pub returns-else-digit-eq48 : goal.returns-else-digit-eq48
returns-else-digit-eq48 c w r h t =
    zero_ends w r (c.args.digit - 48) h (omega arith) (omega arith) (subst (λ s. TailIs s w r) c.in-Zero.is t)
