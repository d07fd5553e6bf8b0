use Rattle.plan_changes.proofs.LeastLemmas.{BoundsCountChanges-proof}
use Rattle.plan_changes.proofs.laws.bounds_count_changes.Goals as goal

pub returns : goal.returns
returns c = BoundsCountChanges-proof
