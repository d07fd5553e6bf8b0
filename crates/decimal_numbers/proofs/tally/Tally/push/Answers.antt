use Rattle.std.proofs.Common.{refl, ◌-◌}
use Rattle.decimal_numbers.proofs.Tallying.{drop_digit}
use Rattle.decimal_numbers.proofs.tally.Tally.push.Goals as goal

pub returns-then-self-eq0 : goal.returns-then-self-eq0
returns-then-self-eq0 c keep n count t = drop_digit c.args.self.now _ (c.args.digit - 48) keep n count
    c.if-self-eq0.true c.if-self-eq0.true refl c.push-self.ensures t
