use Rattle.decimal_numbers.proofs.Tallying.{finish_exact, finish_low, finish_high, no_rest}
use Rattle.decimal_numbers.proofs.tally.Tally.rounded.Goals as goal

pub returns-in-Low : goal.returns-in-Low
returns-in-Low c keep n count p q k t =
    finish_low c.args.self _ keep n count p q c.scaled_size-in-Low.ensures k c.in-Low.is t

pub returns-in-High : goal.returns-in-High
returns-in-High c keep n count p q k t = finish_high c.args.self _ keep n count p q c.next_size.ensures k c.in-High.is t

pub returns-in-Empty : goal.returns-in-Empty
returns-in-Empty c keep n count p q k t = finish_exact c.args.self _ keep n count p q c.scaled_size.ensures k t
    (no_rest c.args.self.tail _ t.r c.in-Empty.is t.tail)
