use Rattle.json_events.specs.Pulls.{IsUnfinished}
use Rattle.worked_files.proofs.json.streams.add_pieces.Given as goal

abbrev pub invariant-loop-piece : goal.invariant-loop-piece
invariant-loop-piece l = IsUnfinished l.pull
