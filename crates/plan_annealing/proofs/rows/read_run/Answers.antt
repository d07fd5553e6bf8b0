use Rattle.std.proofs.Common.{◌∙◌, sym, arith}
use Rattle.duration_calendar.proofs.WindowLemmas.{in_window_from}
use Rattle.plan_annealing.proofs.rows.read_run.Goals as goal

pub read_row-requires-clause-running : goal.read_row-requires-clause-running
read_row-requires-clause-running g c =
    sym (c.run-window.ensures.periods c.args.t)
    ∙ in_window_from c.run-window.result c.args.t (omega arith) (omega arith)
