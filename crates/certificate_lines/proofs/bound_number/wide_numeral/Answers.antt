use Rattle.std.proofs.Common.{◌≡◌, ◌≤◌, get_or, length}
use Rattle.certificate_lines.proofs.NumberLemmas.{no_wide_zero_in_front, wide_found, wide_none}
use Rattle.certificate_lines.proofs.bound_number.wide_numeral.Goals as goal
use Rattle.certificate_lines.proofs.bound_number.wide_numeral.Goals.{else-bytes-gt1-via-then-bytes-gt1+else-bytes-eq48}
use Rattle.certificate_lines.proofs.bound_number.wide_numeral.Goals.{else-bytes-gt1-via-else-bytes-gt1}

pub returns-then-bytes-eq48-clause-none : goal.returns-then-bytes-eq48-clause-none
returns-then-bytes-eq48-clause-none c = λ n small e.
    no_wide_zero_in_front c.args.bytes.now n small e c.if-bytes-gt1.true c.if-bytes-eq48.true

pub returns-clause-found : goal.returns-clause-found
returns-clause-found c =
    let bytes = c.args.bytes.now in
    let front : get_or bytes 0 0 ≡ 48 → length bytes ≤ 1 = elim c.else-bytes-gt1.branch [
      | else-bytes-gt1-via-then-bytes-gt1+else-bytes-eq48 w ↦ λ z. absurd (w.if-bytes-eq48.false z)
      | else-bytes-gt1-via-else-bytes-gt1 w ↦ λ z. w.if-bytes-gt1.false
    ] in
    wide_found bytes c.wide_value_of_digits.result front c.wide_value_of_digits.ensures.found
    c.wide_value_of_digits.ensures.digits c.wide_value_of_digits.ensures.few

pub returns-clause-none : goal.returns-clause-none
returns-clause-none c =
    wide_none c.args.bytes.now c.wide_value_of_digits.result c.wide_value_of_digits.ensures.none
