use Rattle.std.proofs.Common.{ℕ, ◌<◌}
use Rattle.duration_calendar.specs.Windows.{run_of}
use Rattle.duration_calendar.specs.Calendar.{IsAllowedIn}
use Rattle.certificate_tree.specs.Meetings.{MeetsEach}
use Rattle.certificate_tree.proofs.excl.each_meets_each.Given as goal

abbrev pub invariant-loop-s : goal.invariant-loop-s
invariant-loop-s l = (r : ℕ) → r < l.s → IsAllowedIn l.inst l.exclusion.first l.fn.first.from l.fn.first.to r
    → MeetsEach l.inst l.exclusion.season (run_of l.inst l.exclusion.first r) l.exclusion.second l.second
