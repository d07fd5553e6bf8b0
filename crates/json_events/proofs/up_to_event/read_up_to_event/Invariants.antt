use Rattle.std.proofs.Common.{ℕ, List, length}
use Rattle.json_grammar.specs.Tree as json
use Rattle.json_machine.specs.Machines.{IsSound}
use Rattle.json_events.specs.Unreads.{unread_of}
use Rattle.json_events.specs.Readings.{HasTold}
use Rattle.json_events.proofs.up_to_event.read_up_to_event.Given as goal

abbrev pub invariant-loop-reading : goal.invariant-loop-reading
invariant-loop-reading l = record {
  sound : IsSound l.unread.at l.machine;
  told : (stream : List ℕ) (told : List json.Event) → HasTold l.fn.machine l.fn.unread stream told
      → HasTold l.machine l.unread stream told;
}

abbrev pub decreases-loop-reading : goal.decreases-loop-reading
decreases-loop-reading l = length (unread_of l.unread)
