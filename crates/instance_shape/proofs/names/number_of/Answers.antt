use Rattle.std.proofs.Common.{ℕ, ◌≤◌, ◌<◌, ◌^◌, arith}
use Rattle.std.proofs.Math.Nat.{pow-le-pow_right}
use Rattle.instance_shape.proofs.names.number_of.Goals as goal

small : (n i : ℕ) → n < 10 ^ i → i ≤ 8 → n < 100_000_000
small n i h l = let ten : 0 < 10 = omega arith in let p : 10 ^ i ≤ 10 ^ 8 = pow-le-pow_right ten l in
    omega (arith, h, p)

pub overflow_mul-number : goal.overflow_mul-number
overflow_mul-number c = let i : c.loop-byte.byte-index ≤ 8 = omega arith in
    let n = small c.loop-byte.number c.loop-byte.byte-index c.loop-byte.invariant.small i in omega (arith, n)

pub overflow_add-number : goal.overflow_add-number
overflow_add-number c = let i : c.loop-byte.byte-index ≤ 8 = omega arith in
    let n = small c.loop-byte.number c.loop-byte.byte-index c.loop-byte.invariant.small i in omega (arith, n)
