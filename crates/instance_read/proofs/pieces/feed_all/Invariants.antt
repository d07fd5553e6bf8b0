use Rattle.std.proofs.Common.{[], ◌-◌, ◌≤◌, length, take}
use Rattle.json_events.specs.Pulls.{IsUnfinished}
use Rattle.instance_model.specs.declared.limits.Limits.{Limits}
use Rattle.instance_read.specs.Fed.{HasRead}
use Rattle.instance_read.proofs.pieces.feed_all.Given as goal

abbrev pub invariant-pieces : goal.invariant-pieces
invariant-pieces l = record {
  within : l.fed ≤ length l.bytes;
  unfinished : IsUnfinished l.reader.pull;
  read : (limits : Limits) → HasRead limits l.initial.reader [] → HasRead limits l.reader (take l.fed l.bytes);
}

abbrev pub decreases-pieces : goal.decreases-pieces
decreases-pieces l = length l.bytes - l.fed
