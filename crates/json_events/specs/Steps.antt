-- What the private functions of a `Pull` answer. Not part of any promise: only they cite it.
use Rattle.std.specs.Prelude.{◌≡◌, ℕ, ◌+◌, ◌<◌, ◌⊎◌, List, length, slice_get, Bool, true, Some, None, Result, Ok, Err}
use Rattle.std.specs.declared.alloc.AllocError.{AllocError}
use Rattle.json_events.specs.PullViews.{PullView}
use Rattle.json_events.specs.Pulls.{Stands, HasFault}
use Rattle.json_grammar.specs.Tree as json
use Rattle.json_grammar.specs.Grammar.{IsText}
use Rattle.json_grammar.specs.Events.{event_view}
use Rattle.json_grammar.specs.Prefix.{IsSyntaxFault, IsShallow}
use Rattle.json_grammar.specs.Stream.{IsNextDue, IsDueCount, IsNextOfEach, IsGivenText}
use Rattle.json_grammar.specs.laws.Reads.{HasRead}
use Rattle.json_grammar.specs.declared.fault.TextFault.{TextFault}
use Rattle.json_grammar.specs.declared.fault.TextFault.TheVariants.{Syntax, TooDeep, Memory}
use Rattle.json_events.specs.declared.pull.Pulled.{Pulled}
use Rattle.json_events.specs.declared.pull.Pulled.TheVariants as pulled
use Rattle.json_events.specs.declared.pull.Pulled.TheVariants.{More, Done}
use Rattle.json_events.specs.declared.pull.Stage.TheVariants.{Reading}
use Rattle.json_events.specs.declared.pull.Step.{Step}
use Rattle.json_events.specs.declared.pull.Step.TheVariants.{Event, Fault, Used, Over}

-- the next event, of the stream and of every text that begins with it
pub record IsNext (stream : List ℕ) (given : ℕ) (e : json.Event) : Type 0 where
  pub due : (finished : Bool) → IsNextDue stream finished given e
  pub of_each : IsNextOfEach stream given e

-- the stream's fault, behind all events that are due
pub record IsFault (stream : List ℕ) (given : ℕ) (finished : Bool) (fault : TextFault) : Type 0 where
  pub at : ℕ
  pub is_fault : HasFault stream at fault
  pub place : (at < length stream) ⊎ (finished ≡ true)
  pub count : (f : Bool) → IsDueCount stream f given

-- it reads, and holds no event
pub record IsIdle (pull : PullView) : Type 0 where
  pub is_reading : pull.stage ≡ Reading
  pub none_held : pull.held ≡ None

-- all bytes are read, and all that was told is given
pub record IsUsedUp (pull : PullView) (stream : List ℕ) (given : ℕ) : Type 0 where
  pub is_reading : pull.stage ≡ Reading
  pub told : List json.Event
  pub read : HasRead stream pull.at pull.state told
  pub at_end : pull.at ≡ length stream
  pub all_given : given ≡ length told
  pub none_held : pull.held ≡ None

abbrev pub Steps : Result Step AllocError → PullView → List ℕ → ℕ → Bool → Type 0
Steps (Ok (Event e)) pull stream given finished =
    IsNext stream given (event_view e) × Stands pull stream (given + 1) finished
Steps (Ok (Fault fault)) pull stream given finished =
    IsFault stream given finished fault × Stands pull stream given finished
Steps (Ok Used) pull stream given finished = IsUsedUp pull stream given × Stands pull stream given finished
Steps (Ok Over) pull stream given finished = IsGivenText stream given × Stands pull stream given finished
Steps (Err e) pull stream given finished = Stands pull stream given finished

-- the last event of a text
pub record IsLast (stream : List ℕ) (given : ℕ) (e : json.Event) : Type 0 where
  pub due : IsNextDue stream true given e
  pub of_text : (tree : json.Tree) → IsText stream tree → slice_get (json.events_of tree) given ≡ Some e

abbrev pub Concludes : Result Pulled TextFault → PullView → List ℕ → ℕ → Type 0
Concludes (Ok (pulled.Event e)) pull stream given =
    IsLast stream given (event_view e) × Stands pull stream (given + 1) true
Concludes (Ok More) pull stream given = ⊥
Concludes (Ok Done) pull stream given = IsGivenText stream given × Stands pull stream given true
Concludes (Err (Syntax at)) pull stream given =
    IsSyntaxFault stream at × IsShallow stream at × IsDueCount stream true given × Stands pull stream given true
Concludes (Err (TooDeep at)) pull stream given = ⊥
Concludes (Err Memory) pull stream given = Unit {0}
