use Rattle.std.proofs.Common.{ℕ, ◌<◌}
use Rattle.duration_calendar.specs.Calendar.{IsAllowedIn}
use Rattle.certificate_tree.specs.Meetings.{MeetsAt}
use Rattle.certificate_tree.proofs.excl.meets_each.Given as goal

abbrev pub invariant-loop-s : goal.invariant-loop-s
invariant-loop-s l =
    (r : ℕ) → r < l.s → IsAllowedIn l.inst l.i l.fn.span.from l.fn.span.to r → MeetsAt l.inst l.season l.window l.i r
