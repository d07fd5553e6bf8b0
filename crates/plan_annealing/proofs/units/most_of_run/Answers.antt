use Rattle.std.proofs.Common.{◌∙◌, sym, arith}
use Rattle.duration_calendar.proofs.WindowLemmas.{in_window_from}
use Rattle.plan_annealing.proofs.units.most_of_run.Goals as goal

pub risks-risks-requires-clause-running : goal.risks-risks-requires-clause-running
risks-risks-requires-clause-running g c =
    sym (c.run-window.ensures.periods c.loop-t.t)
    ∙ in_window_from c.run-window.result c.loop-t.t (omega arith) (omega arith)
