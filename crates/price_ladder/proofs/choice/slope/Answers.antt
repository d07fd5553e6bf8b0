use Rattle.price_ladder.proofs.ChoiceLemmas.{slope_is}
use Rattle.price_ladder.proofs.choice.slope.Goals as goal

pub returns-clause-value : goal.returns-clause-value
returns-clause-value c = slope_is c.args.inst.now c.args.place c.args.starts.now c.weight_sum.result
    c.fixed_weight.result c.weight_sum.ensures.value c.fixed_weight.ensures.value c.weight_sum.ensures.small
    c.fixed_weight.ensures.small
