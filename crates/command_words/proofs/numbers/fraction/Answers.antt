use Rattle.std.proofs.Common.{◌≡◌, ℕ, ◌≤◌, sym, ◌∙◌, ap, ◌<◌, ◌+◌, ◌-◌, ◌*◌, ◌^◌, arith, length}
use Rattle.std.proofs.Math.Nat.{pow-le-pow_right, mul-le-mul_right}
use Rattle.std.proofs.lemmas.Nat.{pow-add}
use Rattle.command_words.proofs.numbers.fraction.Goals as goal

small : (n i : ℕ) → n < 10 ^ i → i ≤ 12 → n < 1_000_000_000_000
small n i h l =
    let ten : 0 < 10 = omega arith in let p : 10 ^ i ≤ 10 ^ 12 = pow-le-pow_right ten l in omega (arith, h, p)

scaled : (n l : ℕ) → n < 10 ^ l → l ≤ 12 → n * 10 ^ (12 - l) ≤ 1_000_000_000_000
scaled n l h m =
    let whole : l + (12 - l) ≡ 12 = omega arith in
    let e : 10 ^ l * 10 ^ (12 - l) ≡ 10 ^ 12 = sym (pow-add 10 l (12 - l)) ∙ ap (λ k. 10 ^ k) whole in
    let f : n * 10 ^ (12 - l) ≤ 10 ^ l * 10 ^ (12 - l) = mul-le-mul_right (10 ^ (12 - l)) (omega (arith, h)) in
    omega (arith, e, f)

pub overflow_mul-number : goal.overflow_mul-number
overflow_mul-number c =
    let i : c.loop-digit.digit-index ≤ 12 = omega arith in let n = small c.loop-digit.number c.loop-digit.digit-index
    c.loop-digit.invariant.small i in omega (arith, n)

pub overflow_add-number : goal.overflow_add-number
overflow_add-number c =
    let i : c.loop-digit.digit-index ≤ 12 = omega arith in let n = small c.loop-digit.number c.loop-digit.digit-index
    c.loop-digit.invariant.small i in omega (arith, n)

pub overflow_mul-result : goal.overflow_mul-result
overflow_mul-result c =
    let len = length c.args.digits.now in
    let all : c.loop-digit.digit-index ≡ len = omega arith in
    let n : c.loop-digit.number < 10 ^ len = rw all at c.loop-digit.invariant.small in
    let p : c.loop-digit.number * 10 ^
    (12 - len) ≤ 1_000_000_000_000 = scaled c.loop-digit.number len n c.if-digits-gt12.false in
    rw c.pow.ensures (omega (arith, p))
