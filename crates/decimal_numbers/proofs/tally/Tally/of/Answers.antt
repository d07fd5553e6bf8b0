use Rattle.std.proofs.Common.{◌+◌, length}
use Rattle.decimal_numbers.specs.Decimal.{number_from}
use Rattle.decimal_numbers.proofs.Tallying.{both}
use Rattle.decimal_numbers.proofs.tally.Tally.of.Goals as goal

pub returns : goal.returns
returns c = both _ c.args.keep c.args.whole.now c.args.fraction.now
    (c.push_all-2.ensures c.args.keep (number_from 0 c.args.whole.now) (0 + length c.args.whole.now)
    (c.push_all.ensures c.args.keep 0 0 c.new-tally.ensures))
