-- What contracts see of a `Pull`. Not part of any promise: the definition of `Stands` reads it.
use Rattle.std.specs.Prelude.{ℕ, List, Bool, Option}
use Rattle.json_grammar.specs.Tree as json
use Rattle.json_grammar.specs.laws.Machine.{State}
use Rattle.json_events.specs.declared.pull.Stage.{Stage}

-- the state of its machine, the offset of the first byte that it has not read, the bytes from there on that have come,
-- an event that is told and not given, its stage, and whether `finish` was called
pub record PullView : Type 0 where
  pub state : State
  pub at : ℕ
  pub unread : List ℕ
  pub held : Option json.Event
  pub stage : Stage
  pub finished : Bool
