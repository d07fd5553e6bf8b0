use Rattle.std.proofs.Common.{arith}
use Rattle.decimal_numbers.proofs.Rounding.{ten_more, ten_reaches}
use Rattle.decimal_numbers.proofs.digits.scaled.Goals as goal

pub returns-then-value-ge-LIMIT : goal.returns-then-value-ge-LIMIT
returns-then-value-ge-LIMIT c = let f =
    ten_reaches c.loop-left.value c.loop-left.left _ (omega arith) c.loop-left.invariant.same in omega arith

pub loop-left-preserved : goal.loop-left-preserved
loop-left-preserved c = record {
  same = ten_more c.loop-left.value c.loop-left.left _ (omega arith) c.loop-left.invariant.same;
  small = omega arith;
}
