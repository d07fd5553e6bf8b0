use Rattle.std.proofs.Common.{ℕ, List}
use Rattle.json_events.specs.Pulls.{IsUnfinished}
use Rattle.instance_model.specs.declared.limits.Limits.{Limits}
use Rattle.shape_walk.specs.Awaits.{AwaitsCount}
use Rattle.instance_read.specs.Readers.{IsFollowing}
use Rattle.instance_read.proofs.follow.take_runs.Given as goal

abbrev pub invariant-runs : goal.invariant-runs
invariant-runs l = record {
  unfinished : IsUnfinished l.pull;
  awaits : AwaitsCount l.walk l.spot;
  follows : (limits : Limits) (bytes : List ℕ) → IsFollowing limits l.initial.pull l.initial.walk l.initial.keeper bytes
      → IsFollowing limits l.pull l.walk l.keeper bytes;
}
