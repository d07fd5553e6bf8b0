use Rattle.plan_repair.proofs.CompleteLemmas.{runs_complete}
use Rattle.plan_repair.proofs.laws.repairs_are_complete.Goals as goal

pub returns : goal.returns
returns c = runs_complete
