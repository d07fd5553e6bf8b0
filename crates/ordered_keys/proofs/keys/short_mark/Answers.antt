use Rattle.std.proofs.Common.{ℕ, ◌*◌, ◌≤◌, ◌<◌, ◌^◌, arith}
use Rattle.std.proofs.Math.Nat.{pow-le-pow_right}
use Rattle.ordered_keys.proofs.keys.short_mark.Goals as goal

small : (n i : ℕ) → n < 2 * 256 ^ i → i ≤ 14 → n < 2 * 256 ^ 14
small n i h l =
    let base : 0 < 256 = omega arith in
    let p : 256 ^ i ≤ 256 ^ 14 = pow-le-pow_right base l in
    omega (arith, h, p)

pub overflow_mul-number : goal.overflow_mul-number
overflow_mul-number c =
    let i : c.loop-byte.byte-index ≤ 14 = omega arith in
    let n = small c.loop-byte.number c.loop-byte.byte-index c.loop-byte.invariant.small i in omega (arith, n)

pub overflow_add-number : goal.overflow_add-number
overflow_add-number c =
    let i : c.loop-byte.byte-index ≤ 14 = omega arith in
    let n = small c.loop-byte.number c.loop-byte.byte-index c.loop-byte.invariant.small i in omega (arith, n)
