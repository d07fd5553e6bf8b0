use Rattle.std.proofs.Common.{◌-◌, ◌≤◌}
use Rattle.branch_search.proofs.choosing.member.piece_from.Given as goal

abbrev pub invariant-loop-first : goal.invariant-loop-first
invariant-loop-first l = l.first ≤ l.fn.at

abbrev pub decreases-loop-first : goal.decreases-loop-first
decreases-loop-first l = l.first - l.from
