use Rattle.std.proofs.Common.{◌-◌, ◌≤◌}
use Rattle.branch_search.proofs.choosing.tree_size.tree_size.Given as goal

abbrev pub invariant-loop-low : goal.invariant-loop-low
invariant-loop-low l = record { order : l.low ≤ l.high; most : l.high ≤ l.fn.most }

abbrev pub decreases-loop-low : goal.decreases-loop-low
decreases-loop-low l = l.high - l.low
