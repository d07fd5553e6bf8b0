use Rattle.std.proofs.Common.{◌∙◌, ap, refl}
use Rattle.price_ladder.specs.Raised.{root_worth}
use Rattle.price_ladder.proofs.GainLemmas.{root_has_starts, root_worth-zero, least_gain_is, IsGainOf-from}
use Rattle.price_ladder.proofs.least_gain.least_gain.Goals as goal

pub root_worth-requires-clause-starts : goal.root_worth-requires-clause-starts
root_worth-requires-clause-starts c = root_has_starts c.args.inst.now c.args.starts.now c.requires

pub returns-clause-value : goal.returns-clause-value
returns-clause-value c =
    let gain = IsGainOf-from c.greatest_total.result c.in_ok-least.least c.div_euclid.result
    c.greatest_total.ensures.small c.in_ok-least.ensures.small c.div_euclid.ensures in
    gain.value
    ∙ least_gain_is c.args.inst.now c.greatest_total.result c.in_ok-least.least _ c.greatest_total.ensures.value
    (c.in_ok-least.ensures.value ∙ ap (root_worth c.args.inst.now) c.in_ok-zero.ensures.value
    ∙ root_worth-zero c.args.inst.now) refl

pub returns-clause-small : goal.returns-clause-small
returns-clause-small c = (IsGainOf-from c.greatest_total.result c.in_ok-least.least c.div_euclid.result
    c.greatest_total.ensures.small c.in_ok-least.ensures.small c.div_euclid.ensures).small
