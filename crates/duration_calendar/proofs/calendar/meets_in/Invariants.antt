use Rattle.std.proofs.Common.{ℕ, ◌<◌}
use Rattle.duration_calendar.specs.Calendar.{IsMeeting}
use Rattle.duration_calendar.proofs.calendar.meets_in.Given as goal

abbrev pub invariant-loop-t : goal.invariant-loop-t
invariant-loop-t l = (u : ℕ) → u < l.t → ¬ IsMeeting l.inst l.season l.fn.x l.fn.y u
