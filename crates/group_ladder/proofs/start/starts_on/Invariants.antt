use Rattle.std.proofs.Common.{◌≡◌, length, All}
use Rattle.group_ladder.specs.Search.{AreStarts, IsRange}
use Rattle.group_ladder.proofs.start.starts_on.Given as goal

abbrev pub invariant-loop-i : goal.invariant-loop-i
invariant-loop-i g l = record {
  starts : AreStarts l.inst l.starts.items;
  each : length l.ranges.items ≡ l.i;
  ranges : All (IsRange (length l.starts.items)) l.ranges.items;
}
