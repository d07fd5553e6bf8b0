use Rattle.std.proofs.Common.{◌≤◌, length}
use Rattle.group_ladder.specs.Search.{AreWorks}
use Rattle.group_ladder.proofs.band.push_works.Given as goal

abbrev pub invariant-loop-cell : goal.invariant-loop-cell
invariant-loop-cell l = record {
  order : l.at ≤ l.range.past;
  works : AreWorks l.inst (length l.starts) l.works.items;
}
