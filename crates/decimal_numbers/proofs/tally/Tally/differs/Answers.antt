use Rattle.decimal_numbers.proofs.Tallying.{vanish_zero}
use Rattle.decimal_numbers.proofs.tally.Tally.differs.Goals as goal

pub returns-in_default : goal.returns-in_default
returns-in_default c keep n count t z h =
    vanish_zero c.args.self keep n count c.in_default.not-Low c.in_default.not-High t z h
