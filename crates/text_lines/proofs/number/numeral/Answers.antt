use Rattle.std.proofs.Common.{◌≡◌, ◌≤◌, get_or, length, arith}
use Rattle.text_lines.proofs.NumeralLemmas.{no_zero_in_front, numeral_found, numeral_none}
use Rattle.text_lines.proofs.number.numeral.Goals as goal
use Rattle.text_lines.proofs.number.numeral.Goals.{else-bytes-gt1-via-then-bytes-gt1+else-bytes-eq48}
use Rattle.text_lines.proofs.number.numeral.Goals.{else-bytes-gt1-via-else-bytes-gt1}

pub returns-then-bytes-eq48-clause-none : goal.returns-then-bytes-eq48-clause-none
returns-then-bytes-eq48-clause-none c = λ n e l.
    no_zero_in_front c.args.bytes.now n e (omega (arith, c.requires, l)) c.if-bytes-gt1.true c.if-bytes-eq48.true

pub returns-clause-found : goal.returns-clause-found
returns-clause-found c =
    let bytes = c.args.bytes.now in
    let front : get_or bytes 0 0 ≡ 48 → length bytes ≤ 1 = elim c.else-bytes-gt1.branch [
      | else-bytes-gt1-via-then-bytes-gt1+else-bytes-eq48 w ↦ λ z. absurd (w.if-bytes-eq48.false z)
      | else-bytes-gt1-via-else-bytes-gt1 w ↦ λ z. w.if-bytes-gt1.false
    ] in
    numeral_found bytes c.args.most c.value_of_digits.result c.requires front c.value_of_digits.ensures.found
    c.value_of_digits.ensures.digits c.value_of_digits.ensures.few

pub returns-clause-none : goal.returns-clause-none
returns-clause-none c =
    numeral_none c.args.bytes.now c.args.most c.value_of_digits.result c.requires c.value_of_digits.ensures.none
