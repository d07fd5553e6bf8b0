use Rattle.std.proofs.Common.{◌≤◌, length}
use Rattle.std.specs.Prelude.{◌-◌}
use Rattle.json_events.specs.CountedNumbers.{AreCountedRuns}
use Rattle.json_events.proofs.counted_numbers.counted_numbers.Given as goal

abbrev pub invariant-loop-counts : goal.invariant-loop-counts
invariant-loop-counts l = record {
  runs : AreCountedRuns l.bytes l.counts.items l.used;
  within : l.used ≤ length l.bytes;
  few : length l.counts.items ≤ l.most;
}

abbrev pub decreases-loop-counts : goal.decreases-loop-counts
decreases-loop-counts l = l.most - length l.counts.items
