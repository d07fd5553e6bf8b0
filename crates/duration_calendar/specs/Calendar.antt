-- The first allowed start in an interval, and the first period of a season that two windows share.
use Rattle.std.specs.Prelude.{ℕ, ◌<◌, ◌≤◌, IsTrue}
use Rattle.duration_calendar.specs.declared.window.Window.{Window}
use Rattle.instance_model.specs.Tables.{Tables, is_allowed, in_season_of}
use Rattle.duration_calendar.specs.Windows.{in_window}

-- s is an allowed start of intervention i from a to b
pub record IsAllowedIn (inst : Tables) (i a b s : ℕ) : Type 0 where
  pub from : a ≤ s
  pub to : s ≤ b
  pub allowed : IsTrue (is_allowed inst i s)

-- s is one, and none is less
pub record IsFirstAllowed (inst : Tables) (i a b s : ℕ) : Type 0 where
  pub one : IsAllowedIn inst i a b s
  pub least : (r : ℕ) → r < s → ¬ IsAllowedIn inst i a b r

-- period t is in both windows and belongs to season q
pub record IsMeeting (inst : Tables) (q : ℕ) (x y : Window) (t : ℕ) : Type 0 where
  pub first : IsTrue (in_window x t)
  pub second : IsTrue (in_window y t)
  pub season : IsTrue (in_season_of inst q t)

-- t is one, and none is less
pub record IsFirstMeeting (inst : Tables) (q : ℕ) (x y : Window) (t : ℕ) : Type 0 where
  pub one : IsMeeting inst q x y t
  pub least : (u : ℕ) → u < t → ¬ IsMeeting inst q x y u
