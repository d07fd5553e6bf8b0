use Rattle.plan_refine.proofs.CompleteLemmas.{runs_complete}
use Rattle.plan_refine.proofs.laws.refined_runs_are_complete.Goals as goal

pub returns : goal.returns
returns c = runs_complete
