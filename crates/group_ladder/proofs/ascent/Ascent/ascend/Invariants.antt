use Rattle.std.proofs.Common.{◌≡◌}
use Rattle.group_ladder.proofs.ascent.Ascent.ascend.Given as goal

abbrev pub invariant-loop-round : goal.invariant-loop-round
invariant-loop-round l = l.self ≡ l.fn.self
