use Rattle.json_events.specs.Pulls.{IsUnfinished}
use Rattle.worked_files.proofs.json.streams.add_due.Given as goal

abbrev pub invariant-loop : goal.invariant-loop
invariant-loop l = IsUnfinished l.pull
