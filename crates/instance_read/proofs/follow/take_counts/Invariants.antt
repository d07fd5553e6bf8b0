use Rattle.std.proofs.Common.{ℕ, List}
use Rattle.json_events.specs.Pulls.{IsUnfinished}
use Rattle.instance_model.specs.declared.limits.Limits.{Limits}
use Rattle.shape_walk.specs.Awaits.{AwaitsCount}
use Rattle.instance_read.specs.Readers.{IsFollowing}
use Rattle.instance_read.proofs.follow.take_counts.Given as goal

abbrev pub invariant-counts : goal.invariant-counts
invariant-counts l = record {
  unfinished : IsUnfinished l.pull;
  awaits : AwaitsCount l.walk l.spot;
  follows : (limits : Limits) (bytes : List ℕ) → IsFollowing limits l.fn.pull l.fn.walk l.fn.keeper bytes
      → IsFollowing limits l.pull l.walk l.keeper bytes;
}
