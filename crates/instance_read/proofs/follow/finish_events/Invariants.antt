use Rattle.std.proofs.Common.{ℕ, List}
use Rattle.instance_model.specs.declared.limits.Limits.{Limits}
use Rattle.instance_read.specs.Readers.{IsFollowing, IsEnding}
use Rattle.instance_read.proofs.follow.finish_events.Given as goal

abbrev pub invariant-events : goal.invariant-events
invariant-events l = (limits : Limits) (bytes : List ℕ)
    → IsFollowing limits l.initial.pull l.initial.walk l.initial.keeper bytes
    → IsEnding limits l.pull l.walk l.keeper bytes
