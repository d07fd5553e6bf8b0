use Rattle.std.proofs.Common.{ℕ, ◌<◌}
use Rattle.duration_calendar.specs.Calendar.{IsAllowedIn}
use Rattle.duration_calendar.proofs.calendar.first_allowed.Given as goal

abbrev pub invariant-loop-s : goal.invariant-loop-s
invariant-loop-s l = (r : ℕ) → r < l.s → ¬ IsAllowedIn l.inst l.i l.a l.b r
