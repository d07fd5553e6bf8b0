use Rattle.std.proofs.Common.{◌∙◌, sym, arith}
use Rattle.duration_calendar.proofs.WindowLemmas.{in_window_from}
use Rattle.group_ladder.proofs.start.start_of.Goals as goal

pub push_row-requires-clause-running : goal.push_row-requires-clause-running
push_row-requires-clause-running g c =
    sym (c.run-window.ensures.periods c.loop-t.t)
    ∙ in_window_from c.run-window.result c.loop-t.t (omega arith) (omega arith)
