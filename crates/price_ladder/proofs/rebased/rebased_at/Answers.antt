use Rattle.std.proofs.Common.{◌∙◌, arith}
use Rattle.fixed_num.proofs.SignedLemmas.{back_from_abs}
use Rattle.price_ladder.specs.Kept.{rebased_of}
use Rattle.price_ladder.proofs.KeptLemmas.{place_row, at_place}
use Rattle.price_ladder.proofs.rebased.rebased_at.Goals as goal

pub allowed-requires : goal.allowed-requires
allowed-requires c = place_row c.args.inst.now c.args.k c.periods-periods.result c.periods-periods.ensures.value
    c.periods-periods.ensures.some c.requires.within

pub returns-clause-value : goal.returns-clause-value
returns-clause-value c = λ a.
    at_place c.args.inst.now (rebased_of c.args.inst.now c.args.prices.now c.args.t c.args.bases.now) c.args.k
    c.periods-periods.result _
    c.periods-periods.ensures.value
    (back_from_abs c.rebased.result (omega (arith, c.rebased.ensures.small)) ∙ c.rebased.ensures.value)
