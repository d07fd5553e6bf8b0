use Rattle.std.proofs.Common.{◌≤◌, length}
use Rattle.group_ladder.specs.Search.{AreStarts}
use Rattle.group_ladder.proofs.start.push_starts.Given as goal

abbrev pub invariant-loop-s : goal.invariant-loop-s
invariant-loop-s g l = record {
  starts : AreStarts l.inst l.starts.items;
  more : length l.initial.starts.items ≤ length l.starts.items;
}
