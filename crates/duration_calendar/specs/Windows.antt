-- Windows of periods, which count from 1.
use Rattle.std.specs.Prelude.{ℕ, ◌+◌, ◌≤◌, Bool, ◌&&◌, nat_le, nat_lt, IsTrue}
use Rattle.duration_calendar.specs.declared.window.Window.{Window}
use Rattle.instance_model.specs.Tables.{Tables, delta_of}

-- period t is in a window
unfoldable pub in_window : Window → ℕ → Bool
in_window w t = nat_le w.from t && nat_lt t w.past

-- each period of a window is one of the horizon
unfoldable pub IsInHorizon : Tables → Window → Type 0
IsInHorizon inst w = (t : ℕ) → IsTrue (in_window w t) → (1 ≤ t) × (t ≤ inst.periods)

-- the run of intervention i at start s
abbrev pub run_of : Tables → ℕ → ℕ → Window
run_of inst i s = record { from = s; past = s + delta_of inst i s }
