-- The rule that an exclusion breaks, from the windows of its two interventions.
use Rattle.std.proofs.Common.{◌≡◌, ℕ, ◌+◌, ◌-◌, refl, sym, arith, Bool, true, false, ◌&&◌, List, Option, Some, None}
use Rattle.std.proofs.Common.{if◌then◌else◌}
use Rattle.instance_model.specs.declared.rule.Rule.TheVariants.{Clash}
use Rattle.instance_model.specs.declared.parts.Exclusion.{Exclusion}
use Rattle.instance_model.specs.Tables.{Tables, in_season_of, exclusion_of}
use Rattle.instance_model.specs.Plans.{start_of, runs_at}
use Rattle.instance_model.specs.Rules.{clashes, clash_rule_at}
use Rattle.instance_model.proofs.FirstLemmas.{first_of_ends, first_of-all_none}
use Rattle.duration_calendar.specs.declared.window.Window.{Window}
use Rattle.duration_calendar.specs.Windows.{in_window, IsInHorizon}
use Rattle.duration_calendar.specs.Calendar.{IsMeeting, IsFirstMeeting}

-- a window holds the periods in which intervention i is in progress
pub record IsWindowOf (inst : Tables) (plan : List (Option ℕ)) (i : ℕ) (w : Window) : Type 0 where
  pub periods : (t : ℕ) → in_window w t ≡ runs_at inst i t (start_of plan i)

all_three : (a b d : Bool) → a ≡ true → b ≡ true → d ≡ true → (a && b && d) ≡ true
all_three a b d p q r = rw (p, q, r) refl

not_all : (a b d : Bool) → (a ≡ true → b ≡ true → d ≡ true → ⊥) → (a && b && d) ≡ false
not_all true true true h = absurd (h refl refl refl)
not_all true true false h = refl
not_all true false d h = refl
not_all false b d h = refl

first_false : (a b d : Bool) → b ≡ false → (a && b && d) ≡ false
first_false true b d p = rw p refl
first_false false b d p = refl

second_false : (a b d : Bool) → d ≡ false → (a && b && d) ≡ false
second_false true true d p = p
second_false true false d p = refl
second_false false b d p = refl

no_clash : (inst : Tables) (plan : List (Option ℕ)) (e t : ℕ) (x : Exclusion) (first second : Window)
    → x ≡ exclusion_of inst e → IsWindowOf inst plan x.first first → IsWindowOf inst plan x.second second
    → ¬ IsMeeting inst x.season first second t → clashes inst plan e t ≡ false
unfolding clashes
no_clash inst plan e t x first second ex f s h =
    rw (sym ex, sym (f.periods t), sym (s.periods t)) (not_all (in_season_of inst x.season t) (in_window first t)
    (in_window second t) (λ p q r. h (record { first = q; second = r; season = p })))

clash : (inst : Tables) (plan : List (Option ℕ)) (e t : ℕ) (x : Exclusion) (first second : Window)
    → x ≡ exclusion_of inst e → IsWindowOf inst plan x.first first → IsWindowOf inst plan x.second second
    → IsMeeting inst x.season first second t → clashes inst plan e t ≡ true
unfolding clashes
clash inst plan e t x first second ex f s h =
    rw (sym ex, sym (f.periods t), sym (s.periods t))
    (all_three (in_season_of inst x.season t) (in_window first t) (in_window second t) h.season h.first h.second)

pub clash_found : (inst : Tables) (plan : List (Option ℕ)) (e t : ℕ) (x : Exclusion) (first second : Window)
    → x ≡ exclusion_of inst e → IsWindowOf inst plan x.first first → IsWindowOf inst plan x.second second
    → IsInHorizon inst first → IsFirstMeeting inst x.season first second t
    → Some (Clash e t) ≡ clash_rule_at inst plan e
unfolding clash_rule_at IsInHorizon
clash_found inst plan e t x first second ex f s within m =
    let p = within t m.one.first in
    let d : t - 1 + 1 ≡ t = omega (arith, p) in
    let here : clashes inst plan e t ≡ true = clash inst plan e t x first second ex f s m.one in
    sym (first_of_ends (t - 1) inst.periods (λ u. if clashes inst plan e (u + 1) then Some (Clash e (u + 1)) else None)
    (Clash e t) (omega (arith, p))
    (first_of-all_none (t - 1) (λ u. if clashes inst plan e (u + 1) then Some (Clash e (u + 1)) else None)
    (λ u l. let n : clashes inst plan e (u + 1) ≡ false =
    no_clash inst plan e (u + 1) x first second ex f s (m.least (u + 1) (omega (arith, l))) in rw n refl))
    (rw (d, here) refl))

pub clash_missing : (inst : Tables) (plan : List (Option ℕ)) (e : ℕ) (x : Exclusion) (first second : Window)
    → x ≡ exclusion_of inst e → IsWindowOf inst plan x.first first → IsWindowOf inst plan x.second second
    → ((t : ℕ) → ¬ IsMeeting inst x.season first second t) → None ≡ clash_rule_at inst plan e
unfolding clash_rule_at
clash_missing inst plan e x first second ex f s m =
    sym (first_of-all_none inst.periods (λ u. if clashes inst plan e (u + 1) then Some (Clash e (u + 1)) else None)
    (λ u l. let n : clashes inst plan e (u + 1) ≡ false =
    no_clash inst plan e (u + 1) x first second ex f s (m (u + 1)) in rw n refl))

-- where one of the two has no start
pub first_idle : (inst : Tables) (plan : List (Option ℕ)) (e : ℕ) (x : Exclusion) → x ≡ exclusion_of inst e
    → start_of plan x.first ≡ None → None ≡ clash_rule_at inst plan e
unfolding clash_rule_at clashes
first_idle inst plan e x ex h =
    sym (first_of-all_none inst.periods (λ u. if clashes inst plan e (u + 1) then Some (Clash e (u + 1)) else None)
    (λ u l.
    let n : (in_season_of inst (exclusion_of inst e).season (u + 1)
    && runs_at inst (exclusion_of inst e).first (u + 1) (start_of plan (exclusion_of inst e).first)
    && runs_at inst (exclusion_of inst e).second (u + 1) (start_of plan (exclusion_of inst e).second)) ≡ false =
    rw (sym ex) (first_false (in_season_of inst x.season (u + 1))
    (runs_at inst x.first (u + 1) (start_of plan x.first)) (runs_at inst x.second (u + 1)
    (start_of plan x.second)) (rw h refl)) in rw n refl))

pub second_idle : (inst : Tables) (plan : List (Option ℕ)) (e : ℕ) (x : Exclusion) → x ≡ exclusion_of inst e
    → start_of plan x.second ≡ None → None ≡ clash_rule_at inst plan e
unfolding clash_rule_at clashes
second_idle inst plan e x ex h =
    sym (first_of-all_none inst.periods (λ u. if clashes inst plan e (u + 1) then Some (Clash e (u + 1)) else None)
    (λ u l.
    let n : (in_season_of inst (exclusion_of inst e).season (u + 1)
    && runs_at inst (exclusion_of inst e).first (u + 1) (start_of plan (exclusion_of inst e).first)
    && runs_at inst (exclusion_of inst e).second (u + 1) (start_of plan (exclusion_of inst e).second)) ≡ false =
    rw (sym ex) (second_false (in_season_of inst x.season (u + 1))
    (runs_at inst x.first (u + 1) (start_of plan x.first)) (runs_at inst x.second (u + 1)
    (start_of plan x.second)) (rw h refl)) in rw n refl))
