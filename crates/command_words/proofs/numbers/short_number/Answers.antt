use Rattle.std.proofs.Common.{ℕ, ◌≤◌, ◌<◌, ◌^◌, arith}
use Rattle.std.proofs.Math.Nat.{pow-le-pow_right}
use Rattle.command_words.proofs.numbers.short_number.Goals as goal

small : (n i : ℕ) → n < 10 ^ i → i ≤ 20 → n < 100_000_000_000_000_000_000
small n i h l =
    let ten : 0 < 10 = omega arith in let p : 10 ^ i ≤ 10 ^ 20 = pow-le-pow_right ten l in omega (arith, h, p)

pub overflow_mul-number : goal.overflow_mul-number
overflow_mul-number c =
    let i : c.loop-digit.digit-index ≤ 20 = omega (arith, c.requires.short) in let n = small c.loop-digit.number
    c.loop-digit.digit-index
    c.loop-digit.invariant.small i in omega (arith, n)

pub overflow_add-number : goal.overflow_add-number
overflow_add-number c =
    let i : c.loop-digit.digit-index ≤ 20 = omega (arith, c.requires.short) in let n = small c.loop-digit.number
    c.loop-digit.digit-index
    c.loop-digit.invariant.small i in omega (arith, n)
