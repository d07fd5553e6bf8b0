-- How far a stream is read. Not part of any promise: only private functions and the definition of `Stands` cite it.
use Rattle.std.specs.Prelude.{◌≡◌, ℕ, ◌<◌, List, [], ◌∷◌, ◌++◌, length, drop, Result, Ok, Err}
use Rattle.std.specs.declared.alloc.AllocError.{AllocError}
use Rattle.json_grammar.specs.Tree as json
use Rattle.json_grammar.specs.Prefix.{IsSyntaxFault, IsShallow, IsDepthFault}
use Rattle.json_grammar.specs.laws.Machine.{State}
use Rattle.json_grammar.specs.laws.Reads.{HasRead}
use Rattle.json_machine.specs.Machines.{state_of, event_of, IsSound}
use Rattle.json_events.specs.Unreads.{unread_of}
use Rattle.json_machine.specs.declared.machine.Machine.{Machine}
use Rattle.json_events.specs.declared.unread.Unread.{Unread}
use Rattle.json_events.specs.declared.up_to_event.Reading.{Reading}
use Rattle.json_events.specs.declared.up_to_event.Reading.TheVariants.{Quiet, Used, One, Two, Refused, TooDeep}

-- the machine has told these events of the stream, and the buffer holds the rest of it
pub record HasTold (machine : Machine) (unread : Unread) (stream : List ℕ) (told : List json.Event) : Type 0 where
  pub read : HasRead stream unread.at (state_of machine) told
  pub rest : unread_of unread ≡ drop unread.at stream
  pub sound : IsSound unread.at machine

-- before the byte at the buffer's offset, the events were told
pub record HasStopped (unread : Unread) (stream : List ℕ) (told : List json.Event) : Type 0 where
  pub state : State
  pub read : HasRead stream unread.at state told
  pub within : unread.at < length stream

-- the events of a reading
abbrev pub told_events : Reading → List json.Event
told_events Quiet = []
told_events Used = []
told_events (One e) = event_of e ∷ []
told_events (Two e f) = event_of e ∷ event_of f ∷ []
told_events Refused = []
told_events TooDeep = []

-- it comes of a byte that was taken
abbrev pub IsTelling : Reading → Type 0
IsTelling Quiet = Unit {0}
IsTelling Used = ⊥
IsTelling (One e) = Unit {0}
IsTelling (Two e f) = Unit {0}
IsTelling Refused = ⊥
IsTelling TooDeep = ⊥

-- what was told behind `told`, and how far the stream was read
abbrev pub ReadsOn : Result Reading AllocError → Machine → Unread → List ℕ → List json.Event → Type 0
ReadsOn (Ok Quiet) machine unread stream told = HasTold machine unread stream (told ++ [])
ReadsOn (Ok Used) machine unread stream told = HasTold machine unread stream told × (unread.at ≡ length stream)
ReadsOn (Ok (One e)) machine unread stream told = HasTold machine unread stream (told ++ event_of e ∷ [])
ReadsOn (Ok (Two e f)) machine unread stream told = HasTold machine unread stream (told ++ event_of e ∷ event_of f ∷ [])
ReadsOn (Ok Refused) machine unread stream told =
    HasStopped unread stream told × IsSyntaxFault stream unread.at × IsShallow stream unread.at
ReadsOn (Ok TooDeep) machine unread stream told = HasStopped unread stream told × IsDepthFault stream unread.at
ReadsOn (Err e) machine unread stream told = HasTold machine unread stream told

-- something was read, if it ended quietly
abbrev pub Shortens : Result Reading AllocError → Unread → Unread → Type 0
Shortens (Ok Quiet) old new = length (unread_of new) < length (unread_of old)
Shortens (Ok Used) old new = Unit {0}
Shortens (Ok (One e)) old new = Unit {0}
Shortens (Ok (Two e f)) old new = Unit {0}
Shortens (Ok Refused) old new = Unit {0}
Shortens (Ok TooDeep) old new = Unit {0}
Shortens (Err e) old new = Unit {0}
