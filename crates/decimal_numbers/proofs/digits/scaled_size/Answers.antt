use Rattle.std.proofs.Common.{arith, subst, ◌≤◌, ◌^◌}
use Rattle.decimal_numbers.specs.Scaling.{SizeIs}
use Rattle.decimal_numbers.proofs.Rounding.{ten_large}
use Rattle.decimal_numbers.proofs.digits.scaled_size.Goals as goal

pub returns-in_default-2 : goal.returns-in_default-2
returns-in_default-2 c x s =
    let h : 10 ^ 20 ≤ x = subst (λ z. SizeIs z x) c.in_default.is s in
    omega (arith, ten_large x c.args.k)
