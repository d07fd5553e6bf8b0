use Rattle.std.proofs.Common.{ℕ, ◌<◌, [], get_or}
use Rattle.refined_prices.specs.Groups.{AreDisjoint}
use Rattle.refined_text.proofs.read.groups.is_apart_from_all.Given as goal

abbrev pub invariant-loop-other : goal.invariant-loop-other
invariant-loop-other l = (j : ℕ) → j < l.other-index → AreDisjoint (get_or l.groups j []) l.group
