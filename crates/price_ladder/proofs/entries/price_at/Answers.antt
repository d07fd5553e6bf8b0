use Rattle.std.proofs.Common.{◌∙◌, arith}
use Rattle.fixed_num.proofs.SignedLemmas.{back_from_abs}
use Rattle.price_ladder.specs.Weights.{price_at}
use Rattle.price_ladder.proofs.KeptLemmas.{place_row, at_place}
use Rattle.price_ladder.proofs.entries.price_at.Goals as goal

pub allowed-requires : goal.allowed-requires
allowed-requires c = place_row c.args.inst.now c.args.k c.periods-periods.result c.periods-periods.ensures.value
    c.periods-periods.ensures.some c.requires.within

pub returns-clause-value : goal.returns-clause-value
returns-clause-value c = λ a.
    at_place c.args.inst.now (price_at c.args.inst.now c.args.prices.now) c.args.k c.periods-periods.result _
    c.periods-periods.ensures.value
    (back_from_abs c.price.result (omega (arith, c.price.ensures.small)) ∙ c.price.ensures.value)
