use Rattle.std.proofs.Common.{◌-◌, ◌≤◌}
use Rattle.branch_search.proofs.choosing.member.piece_past.Given as goal

abbrev pub invariant-loop-end : goal.invariant-loop-end
invariant-loop-end l = record { from : l.fn.at ≤ l.end; to : l.end ≤ l.past }

abbrev pub decreases-loop-end : goal.decreases-loop-end
decreases-loop-end l = l.past - l.end
