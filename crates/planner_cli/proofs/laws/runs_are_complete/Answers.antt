use Rattle.planner_cli.proofs.CompleteLemmas.{runs_complete}
use Rattle.planner_cli.proofs.laws.runs_are_complete.Goals as goal

pub returns : goal.returns
returns c = runs_complete
