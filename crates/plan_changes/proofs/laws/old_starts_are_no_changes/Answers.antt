use Rattle.plan_changes.proofs.CountLemmas.{OldStartsAreNoChanges-proof}
use Rattle.plan_changes.proofs.laws.old_starts_are_no_changes.Goals as goal

pub returns : goal.returns
returns c = OldStartsAreNoChanges-proof
