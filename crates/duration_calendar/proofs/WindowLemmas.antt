-- What a window holds.
use Rattle.std.proofs.Common.{◌≡◌, ℕ, ◌+◌, ◌<◌, ◌≤◌, refl, arith, true}
use Rattle.std.proofs.lemmas.Bool.Decides.{nat_tests}
use Rattle.instance_model.specs.Tables.{Tables, delta_of, in_run}
use Rattle.duration_calendar.specs.declared.window.Window.{Window}
use Rattle.duration_calendar.specs.Windows.{in_window, IsInHorizon}

pub in_window_facts : (w : Window) (t : ℕ) → in_window w t ≡ true → (w.from ≤ t) × (t < w.past)
unfolding in_window
in_window_facts w t e = grind (arith, nat_tests)

pub in_window_from : (w : Window) (t : ℕ) → w.from ≤ t → t < w.past → in_window w t ≡ true
unfolding in_window
in_window_from w t h l = grind (arith, nat_tests)

-- the window of a run holds the periods of the run
pub in_window-run : (inst : Tables) (i s d t : ℕ) → d ≡ delta_of inst i s
    → in_window (record { from = s; past = s + d }) t ≡ in_run inst i s t
unfolding in_window in_run
in_window-run inst i s d t e = rw e refl

pub in_horizon : (inst : Tables) (w : Window) (t : ℕ) → IsInHorizon inst w → w.from ≤ t → t < w.past
    → (1 ≤ t) × (t ≤ inst.periods)
unfolding IsInHorizon
in_horizon inst w t h from past = h t (in_window_from w t from past)

pub IsInHorizon-from : (inst : Tables) (w : Window) → 1 ≤ w.from → w.past ≤ inst.periods + 1 → IsInHorizon inst w
unfolding IsInHorizon
IsInHorizon-from inst w one few t e =
    let p = in_window_facts w t e in
    (omega (arith, one, p), omega (arith, few, p))
