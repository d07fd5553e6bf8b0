use Rattle.plan_roll.proofs.PlanLaw.{plans_law}
use Rattle.plan_roll.proofs.laws.plans_roll.Goals as goal

pub returns : goal.returns
returns c = plans_law
