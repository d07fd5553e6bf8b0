use Rattle.plan_changes.specs.GoalLemmas.{bases_add_up}
use Rattle.plan_changes.proofs.laws.change_bases_add_up.Goals as goal

pub returns : goal.returns
returns c = bases_add_up
