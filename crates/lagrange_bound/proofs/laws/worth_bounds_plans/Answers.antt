use Rattle.lagrange_bound.proofs.WorthLemmas.{WorthBoundsPlans-from}
use Rattle.lagrange_bound.proofs.laws.worth_bounds_plans.Goals as goal

pub returns : goal.returns
returns g c = WorthBoundsPlans-from (g.G.Goal.base_gives c.args._goal.now) (g.G.Goal.value_gives c.args._goal.now)
    (g.met.G.Goal.law c.args._goal.now)
