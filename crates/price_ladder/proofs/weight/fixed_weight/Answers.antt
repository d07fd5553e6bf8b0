use Rattle.price_ladder.proofs.WeightLemmas.{fixed_upper, fixed_lower, fixed_excluded}
use Rattle.price_ladder.proofs.weight.fixed_weight.Goals as goal

pub returns-in-Upper-clause-value : goal.returns-in-Upper-clause-value
returns-in-Upper-clause-value c = fixed_upper c.args.inst.now c.args.place c.in-Upper.c c.in-Upper.t c.upper.result
    c.in-Upper.is c.upper.ensures.value c.upper.ensures.small

pub returns-in-Lower-clause-value : goal.returns-in-Lower-clause-value
returns-in-Lower-clause-value c = fixed_lower c.args.inst.now c.args.place c.in-Lower.c c.in-Lower.t c.lower.result
    c.in-Lower.is c.lower.ensures.value c.lower.ensures.small

pub returns-in-Excluded-clause-value : goal.returns-in-Excluded-clause-value
returns-in-Excluded-clause-value c =
    fixed_excluded c.args.inst.now c.args.place c.in-Excluded.e c.in-Excluded.t c.in-Excluded.is
