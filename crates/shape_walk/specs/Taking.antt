-- What a walk does with one event. Not part of any promise: only private functions cite it.
use Rattle.std.specs.Prelude.{◌≡◌, None}
use Rattle.json_grammar.specs.Tree.{Event}
use Rattle.json_grammar.specs.Events.{event_at}
use Rattle.shape_walk.specs.declared.taken.Taken.{Taken}
use Rattle.shape_walk.specs.Flaws.{first_flaw, flaw_at}
use Rattle.shape_walk.specs.Kept.{event_spot}
use Rattle.shape_walk.specs.Machine.{step, faults_at}
use Rattle.shape_walk.specs.Reads.{read_of}
use Rattle.shape_walk.specs.Standing.{Walk}

-- a walk without a fault takes an event, and tells its spot and what is read of it
pub record Takes (old : Walk) (e : Event) (new : Walk) (taken : Taken) : Type 0 where
  pub under : new.limits ≡ old.limits
  pub first : new.fault ≡ flaw_at (event_at e) (first_flaw (faults_at old.limits e old.state))
  pub state : new.fault ≡ None → new.state ≡ step e old.state
  pub spot : taken.spot ≡ event_spot e old.state.top
  pub read : taken.read ≡ read_of (event_spot e old.state.top) e
