use Rattle.std.proofs.Common.{◌≤◌, ◌^◌, arith}
use Rattle.std.proofs.Math.Nat.{pow-le-pow_right}
use Rattle.text_lines.proofs.number.value_of_digits.Goals as goal

pub overflow_cast-result : goal.overflow_cast-result
overflow_cast-result c =
    let most : 10 ^ c.args.most ≤ 10 ^ 19 = pow-le-pow_right {n = 10} (omega arith) c.requires in
    omega (arith, most, c.in_ok-n.ensures.small)
