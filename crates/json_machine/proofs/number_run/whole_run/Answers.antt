use Rattle.std.proofs.Common.{arith}
use Rattle.json_machine.proofs.PlainNumbers.{whole_begins, zero_begins}
use Rattle.json_machine.proofs.number_run.whole_run.Goals as goal

pub returns-then-bytes-eq48-clause-begins : goal.returns-then-bytes-eq48-clause-begins
returns-then-bytes-eq48-clause-begins c = zero_begins c.args.bytes.now c.digit_count-length.result
    c.digit_count-length.ensures.count (omega arith) c.if-bytes-eq48.true

pub returns-clause-begins : goal.returns-clause-begins
returns-clause-begins c = whole_begins c.args.bytes.now c.digit_count-length.result c.digit_count-length.ensures.count
    c.digit_count-length.ensures.within (omega arith) c.if-bytes-eq48.false
