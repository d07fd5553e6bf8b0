use Rattle.std.proofs.Common.{ℕ, List}
use Rattle.json_events.specs.Pulls.{IsUnfinished}
use Rattle.instance_model.specs.declared.limits.Limits.{Limits}
use Rattle.instance_read.specs.Readers.{IsFollowing}
use Rattle.instance_read.proofs.follow.take_events.Given as goal

abbrev pub invariant-events : goal.invariant-events
invariant-events l = record {
  unfinished : IsUnfinished l.pull;
  follows : (limits : Limits) (bytes : List ℕ) → IsFollowing limits l.initial.pull l.initial.walk l.initial.keeper bytes
      → IsFollowing limits l.pull l.walk l.keeper bytes;
}
