use Rattle.lagrange_bound.proofs.WorthLemmas.{LawfulWorthsBoundPlans-from}
use Rattle.lagrange_bound.proofs.laws.lawful_worths_bound_plans.Goals as goal

pub returns : goal.returns
returns g = LawfulWorthsBoundPlans-from
