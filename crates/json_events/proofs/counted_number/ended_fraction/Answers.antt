use Rattle.std.proofs.Common.{rules, ◌≡◌, ◌+◌, ◌<◌, ℕ, List, length, get_or, ap, subst, length-drop, arith}
use Rattle.std.specs.Prelude.{◌⊎◌, ◌-◌, ◌*◌, ◌^◌}
use Rattle.json_events.specs.CountedNumbers.{WritesDigits}
use Rattle.json_machine.proofs.PlainNumbers.{behind}
use Rattle.json_events.proofs.CountedNumbers.{fraction_fits, ended_fraction}
use Rattle.json_events.proofs.counted_number.ended_fraction.Goals as goal

pub overflow_mul-size : goal.overflow_mul-size
overflow_mul-size c =
    let bs = c.args.bytes.now in
    let n = c.args.whole.length in
    let m = c.digits_behind-fraction.result.length in
    let x = c.digits_behind-fraction.result.value in
    let writes = subst (λ (z : List ℕ). WritesDigits c.args.whole.value z m x) (behind (n + 1) bs)
    c.digits_behind-fraction.ensures.writes in
    let f = fraction_fits bs n c.args.whole.value m x c.requires writes c.digits_behind-fraction.ensures.most in
    let e : x * c.power_of_ten.result ≡ x * 10 ^ (12 - m) = ap (λ z. x * z) c.power_of_ten.ensures in
    omega arith

pub returns : goal.returns
returns c =
    let bs = c.args.bytes.now in
    let n = c.args.whole.length in
    let m = c.digits_behind-fraction.result.length in
    let x = c.digits_behind-fraction.result.value in
    let writes = subst (λ (z : List ℕ). WritesDigits c.args.whole.value z m x) (behind (n + 1) bs)
    c.digits_behind-fraction.ensures.writes in
    let within : n + 1 + m < length bs =
    omega (arith, writes.within, length-drop (n + 1) bs, c.requires.within, c.if-length-bytes.false) in
    let end : (get_or bs (n + 1 + m) 0 ≡ 44) ⊎ (get_or bs (n + 1 + m) 0 ≡ 93) = search rules in
    ended_fraction bs n c.args.whole.value m x (x * c.power_of_ten.result) c.requires writes
    (omega (arith, c.if-fraction-eq0.false)) c.digits_behind-fraction.ensures.most within end
    (ap (λ z. x * z) c.power_of_ten.ensures)
