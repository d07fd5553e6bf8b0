use Rattle.std.proofs.Common.{arith}
use Rattle.decimal_numbers.proofs.Tallying.{took_more}
use Rattle.decimal_numbers.proofs.tally.Tally.push_all.Goals as goal

pub loop-digit-preserved : goal.loop-digit-preserved
loop-digit-preserved c keep n count t = took_more c.loop-digit.self c.push.new.self c.args.digits.now
    c.loop-digit.digit-index keep n count (omega arith) c.push.ensures (c.loop-digit.invariant keep n count t)
