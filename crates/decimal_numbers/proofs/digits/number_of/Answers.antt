use Rattle.std.proofs.Common.{arith, ℕ, ◌+◌, ◌-◌, ◌*◌, ◌≤◌, get_or, drop}
use Rattle.decimal_numbers.specs.Decimal.{number_from}
use Rattle.decimal_numbers.proofs.Rounding.{grows, one_digit}
use Rattle.decimal_numbers.proofs.digits.number_of.Goals as goal

pub returns-then-value-ge-LIMIT-clause-none : goal.returns-then-value-ge-LIMIT-clause-none
returns-then-value-ge-LIMIT-clause-none c =
    let v : ℕ = c.loop-digit.value * 10 + (get_or c.args.digits.now c.loop-digit.digit-index 0 - 48) in
    let f : v ≤ number_from v (drop (c.loop-digit.digit-index + 1) c.args.digits.now) =
    grows v (drop (c.loop-digit.digit-index + 1) c.args.digits.now) in
    let g = one_digit c.loop-digit.value c.loop-digit.digit-index c.args.digits.now (omega arith) in
    omega (arith, g, c.loop-digit.invariant.same)
