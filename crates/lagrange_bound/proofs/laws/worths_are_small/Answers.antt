use Rattle.lagrange_bound.proofs.SizeOfWorthLemmas.{WorthsAreSmall-from}
use Rattle.lagrange_bound.proofs.laws.worths_are_small.Goals as goal

pub returns-clause-worths : goal.returns-clause-worths
returns-clause-worths g c =
    WorthsAreSmall-from (g.G.Goal.base_gives c.args._goal.now) (g.met.G.Goal.small_bases c.args._goal.now)

pub returns-clause-values : goal.returns-clause-values
returns-clause-values g c = g.met.G.Goal.small_values c.args._goal.now
