use Rattle.std.proofs.Common.{◌≡◌, ◌-◌, ◌≤◌}
use Rattle.json_events.specs.Pulls.{IsUnfinished}
use Rattle.plan_desk.specs.Desk.{ShowsSame, after_read}
use Rattle.instance_read.specs.Fed.{HasFed}
use Rattle.instance_read.proofs.stream.feed_rest.Given as goal

abbrev pub invariant-pieces : goal.invariant-pieces
invariant-pieces g l =
    let d = g.D.Desk in
    record {
      within : l.count ≤ l.limit;
      unfinished : IsUnfinished l.reader.pull;
      shows : ShowsSame (d.shows l.desk) (after_read l.count (d.shows l.fn.desk));
      read : HasFed (d.shows l.fn.desk).input.unread l.count l.fn.reader l.reader;
      same : (d.shows l.desk).faults ≡ (d.shows l.fn.desk).faults;
    }

abbrev pub decreases-pieces : goal.decreases-pieces
decreases-pieces g l = l.limit - l.count
