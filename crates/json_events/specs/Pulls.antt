-- What a `Pull` keeps of its stream. Contracts say `Stands` of a pull; how it is defined,
-- over the machine, is no part of any promise.
use Rattle.std.specs.Prelude.{◌≡◌, ℕ, ◌+◌, ◌≤◌, ◌<◌, ◌⊎◌, List, length, drop, Bool, true, false, None, Result, Ok, Err}
use Rattle.std.specs.Option.{option_map, option_to_list}
use Rattle.json_events.specs.PullViews.{PullView}
use Rattle.json_machine.specs.Machines.{state_of, IsSound}
use Rattle.json_events.specs.Unreads.{unread_of}
use Rattle.json_grammar.specs.Tree as json
use Rattle.json_grammar.specs.Grammar.{IsText}
use Rattle.json_grammar.specs.Events.{event_view}
use Rattle.json_grammar.specs.Prefix.{IsSyntaxFault, IsShallow, IsDepthFault, first_past}
use Rattle.json_grammar.specs.laws.Machine.{State}
use Rattle.json_grammar.specs.laws.Reads.{HasRead}
use Rattle.json_grammar.specs.declared.fault.TextFault.{TextFault}
use Rattle.json_grammar.specs.declared.fault.TextFault.TheVariants.{Syntax, TooDeep, Memory}
use Rattle.json_machine.specs.declared.machine.Machine.{Machine}
use Rattle.json_events.specs.declared.pull.Pulled.{Pulled}
use Rattle.json_events.specs.declared.pull.Pulled.TheVariants.{More, Done}
use Rattle.json_events.specs.declared.pull.Stage.{Stage}
use Rattle.json_events.specs.declared.pull.Stage.TheVariants.{Reading, Faulty, Over}
use Rattle.json_events.specs.declared.pull.Pull.TheInside.{Inside}

-- the fault of a stream, of two the lesser, is the one at that place
abbrev pub HasFault : List ℕ → ℕ → TextFault → Type 0
HasFault stream at (Syntax place) = (place ≡ at) × IsSyntaxFault stream at × IsShallow stream at
HasFault stream at (TooDeep place) = (place ≡ at) × IsDepthFault stream at
HasFault stream at Memory = ⊥

-- reading, it has read to the offset, holds the events that were told and not
-- given, and keeps what follows of the stream
pub record IsReading (pull : PullView) (stream : List ℕ) (given : ℕ) : Type 0 where
  pub told : List json.Event
  pub read : HasRead stream pull.at pull.state told
  pub unread : pull.unread ≡ drop pull.at stream
  pub enough : given ≤ length told
  pub held : drop given told ≡ option_to_list pull.held

-- at a fault, which lies before the stream's end, or there if the stream is finished, it
-- has given all that was told before the fault
pub record IsFaulty (pull : PullView) (fault : TextFault) (stream : List ℕ) (given : ℕ) (finished : Bool) : Type 0 where
  pub state : State
  pub told : List json.Event
  pub read : HasRead stream pull.at state told
  pub has_fault : HasFault stream pull.at fault
  pub place : (pull.at < length stream) ⊎ (finished ≡ true)
  pub all_given : given ≡ length told
  pub none_held : pull.held ≡ None

-- at the end of a finished text it has given all events
pub record IsOver (pull : PullView) (stream : List ℕ) (given : ℕ) (finished : Bool) : Type 0 where
  pub is_finished : finished ≡ true
  pub tree : json.Tree
  pub text : IsText stream tree
  pub shallow : first_past 16 tree ≡ None
  pub all_given : given ≡ length (json.events_of tree)
  pub none_held : pull.held ≡ None

abbrev pub StandsIn : Stage → PullView → List ℕ → ℕ → Bool → Type 0
StandsIn Reading pull stream given finished = IsReading pull stream given
StandsIn (Faulty fault) pull stream given finished = IsFaulty pull fault stream given finished
StandsIn Over pull stream given finished = IsOver pull stream given finished

-- the pull stands for the bytes that were pushed, the number of events that it gave, and whether `finish` was called
pub record Stands (pull : PullView) (stream : List ℕ) (given : ℕ) (finished : Bool) : Type 0 where
  pub was_finished : pull.finished ≡ finished
  pub stands : StandsIn pull.stage pull stream given finished

-- how many events were given behind a call, and whether `finish` was called
abbrev pub given_after : Result Pulled TextFault → ℕ → ℕ
given_after (Ok (Pulled.Event e)) given = given + 1
given_after (Ok More) given = given
given_after (Ok Done) given = given
given_after (Err fault) given = given

abbrev pub finished_after : Result Pulled TextFault → Bool → Bool
finished_after (Ok pulled) finished = true
finished_after (Err (Syntax at)) finished = true
finished_after (Err (TooDeep at)) finished = true
finished_after (Err Memory) finished = finished

-- `finish` was not called
abbrev pub IsUnfinished : PullView → Type 0
IsUnfinished pull = pull.finished ≡ false

abbrev pub view_of : Inside → PullView
view_of p = record {
  state = state_of p.machine;
  at = p.unread.at;
  unread = unread_of p.unread;
  held = option_map event_view p.held;
  stage = p.stage;
  finished = p.finished;
}

-- the machine is sound as long as it reads
abbrev pub MachineHolds : Stage → ℕ → Machine → Type 0
MachineHolds Reading at machine = IsSound at machine
MachineHolds (Faulty fault) at machine = Unit {0}
MachineHolds Over at machine = Unit {0}

-- each pull stands for something
pub record StandsForSome (p : Inside) : Type 0 where
  pub stream : List ℕ
  pub given : ℕ
  pub finished : Bool
  pub stands : Stands (view_of p) stream given finished
  pub machine : MachineHolds p.stage p.unread.at p.machine
