use Rattle.std.proofs.Common.{◌≡◌, ◌<◌, get_or, ap, arith}
use Rattle.std.specs.Prelude.{◌*◌, ◌^◌}
use Rattle.json_events.proofs.CountedNumbers.{whole_fits, ended_whole}
use Rattle.json_events.proofs.counted_number.ended_number.Goals as goal
use Rattle.json_events.proofs.counted_number.ended_number.Goals.{else-whole-gt1-via-then-whole-gt1+else-bytes-eq48}
use Rattle.json_events.proofs.counted_number.ended_number.Goals.{else-whole-gt1-via-else-whole-gt1}

pub overflow_mul-result : goal.overflow_mul-result
overflow_mul-result c =
    let whole = c.digits_behind-whole.result in
    let f = whole_fits c.args.bytes.now whole.length whole.value c.digits_behind-whole.ensures.writes
    c.digits_behind-whole.ensures.most in
    let e : whole.value * c.power_of_ten.result ≡ whole.value * 10 ^ 12 =
    ap (λ z. whole.value * z) c.power_of_ten.ensures in
    omega arith

pub returns-in-44 : goal.returns-in-44
returns-in-44 c =
    let bs = c.args.bytes.now in
    let whole = c.digits_behind-whole.result in
    let writes = c.digits_behind-whole.ensures.writes in
    let some : 0 < whole.length = omega (arith, c.if-whole-eq0.false) in
    let zero : get_or bs 0 0 ≡ 48 → whole.length ≡ 1 =
    elim c.else-whole-gt1.branch [
      | else-whole-gt1-via-then-whole-gt1+else-bytes-eq48 w ↦
          (λ e. absurd (w.if-bytes-eq48.false e))
      | else-whole-gt1-via-else-whole-gt1 w ↦
          (λ e. omega (arith, some, w.if-whole-gt1.false))
    ] in
    ended_whole bs whole.length whole.value (whole.value * c.power_of_ten.result) writes some
    c.digits_behind-whole.ensures.most zero (omega (arith, writes.within, c.if-whole-bytes.false)) c.in-44.is
    (ap (λ z. whole.value * z) c.power_of_ten.ensures)
