use Rattle.price_ladder.proofs.WeightLemmas.{weight_upper, weight_lower, weight_excluded}
use Rattle.price_ladder.proofs.weight.weight.Goals as goal

pub returns-in-Upper-clause-value : goal.returns-in-Upper-clause-value
returns-in-Upper-clause-value c = weight_upper c.args.inst.now c.args.place c.in-Upper.c c.in-Upper.t c.args.i
    c.args.s c.load_at.result c.in-Upper.is c.load_at.ensures.value c.load_at.ensures.small

pub returns-in-Lower-clause-value : goal.returns-in-Lower-clause-value
returns-in-Lower-clause-value c = weight_lower c.args.inst.now c.args.place c.in-Lower.c c.in-Lower.t c.args.i
    c.args.s c.load_at-in-Lower.result c.in-Lower.is c.load_at-in-Lower.ensures.value c.load_at-in-Lower.ensures.small

pub returns-in-Excluded-clause-value : goal.returns-in-Excluded-clause-value
returns-in-Excluded-clause-value c = weight_excluded c.args.inst.now c.args.place c.in-Excluded.e c.in-Excluded.t
    c.args.i c.args.s c.times_at.result c.in-Excluded.is c.times_at.ensures.value c.times_at.ensures.small
