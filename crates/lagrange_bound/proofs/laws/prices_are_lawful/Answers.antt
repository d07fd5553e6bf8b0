use Rattle.lagrange_bound.proofs.WorthLemmas.{PricesAreLawful-from}
use Rattle.lagrange_bound.proofs.laws.prices_are_lawful.Goals as goal

pub returns : goal.returns
returns g c = PricesAreLawful-from (g.G.Goal.base_gives c.args._goal.now) (g.G.Goal.value_gives c.args._goal.now)
    (g.met.G.Goal.law c.args._goal.now)
