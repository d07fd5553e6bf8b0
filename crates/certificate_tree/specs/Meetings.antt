-- Runs that meet in a period of a season. Cited by private functions only: no part of any promise.
use Rattle.std.specs.Prelude.{ℕ}
use Rattle.instance_model.specs.declared.parts.Exclusion.{Exclusion}
use Rattle.instance_model.specs.Tables.{Tables}
use Rattle.duration_calendar.specs.declared.window.Window.{Window}
use Rattle.duration_calendar.specs.Windows.{run_of}
use Rattle.duration_calendar.specs.Calendar.{IsAllowedIn, IsMeeting}
use Rattle.lagrange_bound.specs.declared.span.Span.{Span}

-- a window and the run of i at s meet in a period of season q
abbrev pub MeetsAt : Tables → ℕ → Window → ℕ → ℕ → Type 0
MeetsAt inst q window i s = (t : ℕ) × IsMeeting inst q window (run_of inst i s) t

-- the window meets the run of i at each allowed start of an interval
abbrev pub MeetsEach : Tables → ℕ → Window → ℕ → Span → Type 0
MeetsEach inst q window i span = (s : ℕ) → IsAllowedIn inst i span.from span.to s → MeetsAt inst q window i s

-- the run of the first intervention at each allowed start of an interval
-- meets that of the second at each one of another
abbrev pub EachMeetsEach : Tables → Exclusion → Span → Span → Type 0
EachMeetsEach inst x first second = (s : ℕ) → IsAllowedIn inst x.first first.from first.to s
    → MeetsEach inst x.season (run_of inst x.first s) x.second second
