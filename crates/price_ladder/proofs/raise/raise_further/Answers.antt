use Rattle.std.proofs.Common.{◌∙◌, ap}
use Rattle.price_ladder.specs.Raised.{root_worth}
use Rattle.price_ladder.proofs.GainLemmas.{root_worth-zero}
use Rattle.price_ladder.proofs.PhaseLemmas.{not_below}
use Rattle.price_ladder.proofs.raise.raise_further.Goals as goal

pub climb-requires-clause-above : goal.climb-requires-clause-above
climb-requires-clause-above c = not_below c.in_ok-kept.kept.beside.worth c.in_ok-zero.zero.beside.worth _ _
    c.in_ok-kept.ensures.kept.beside.total
    (c.in_ok-zero.ensures.kept.beside.total ∙ ap (root_worth c.args.inst.now) c.in_ok-zero.ensures.value
    ∙ root_worth-zero c.args.inst.now)
    c.in_ok-kept.ensures.kept.beside.small c.in_ok-zero.ensures.kept.beside.small c.if-kept-least.false
