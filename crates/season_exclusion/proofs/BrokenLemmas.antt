-- Whether an exclusion is broken, from the windows of its two interventions; and which starts that depends on.
use Rattle.std.proofs.Common.{◌≡◌, ℕ, ◌+◌, ◌<◌, refl, sym, ◌∙◌, ap, Bool, true, false, ◌&&◌, cond, List, length, get_or}
use Rattle.std.proofs.Common.{set, map, Option, Some, None, is_some, IfSome, IfNone, ◌≢◌}
use Rattle.std.proofs.lemmas.List.{get_or-set_other, map-set}
use Rattle.instance_model.specs.declared.rule.Rule.{Rule}
use Rattle.instance_model.specs.declared.rule.Rule.TheVariants.{Clash}
use Rattle.instance_model.specs.declared.parts.Exclusion.{Exclusion}
use Rattle.instance_model.specs.Naturals.{count_sum}
use Rattle.instance_model.specs.Tables.{Tables, in_run, in_season_of, exclusion_of}
use Rattle.instance_model.specs.Plans.{start_of, runs_at, is_running}
use Rattle.instance_model.specs.Rules.{first_of, clashes, clash_rule_at, KeepsApart}
use Rattle.instance_model.specs.Keys.{clash_count}
use Rattle.instance_model.proofs.RuleLemmas.{keeps_apart, clash_rule_at-none}
use Rattle.instance_model.proofs.EntryLemmas.{count_sum_same}
use Rattle.instance_model.proofs.BoardLemmas.{start_of-starts}
use Rattle.duration_calendar.specs.declared.window.Window.{Window}
use Rattle.duration_calendar.specs.Windows.{in_window, IsInHorizon}
use Rattle.duration_calendar.specs.Calendar.{IsMeeting, IsFirstMeeting}
use Rattle.season_exclusion.specs.Broken.{is_broken, count_set}
use Rattle.season_exclusion.proofs.CountLemmas.{bit}

-- ---- the test
-- a window holds the periods in which intervention i is in progress
pub record IsWindowOf (inst : Tables) (starts : List ℕ) (i : ℕ) (w : Window) : Type 0 where
  pub periods : (t : ℕ) → in_window w t ≡ is_running inst (map Some starts) i t

pub IsWindowOf-run : (inst : Tables) (starts : List ℕ) (i : ℕ) (w : Window) → i < length starts
    → ((t : ℕ) → in_window w t ≡ in_run inst i (get_or starts i 0) t) → IsWindowOf inst starts i w
IsWindowOf-run inst starts i w l h =
    record { periods = λ t. h t ∙ ap (runs_at inst i t) (sym (start_of-starts starts i l)) }

-- what the test has read: the exclusion, the two windows and the least period of the season in both
pub record IsTested (inst : Tables) (starts : List ℕ) (e : ℕ) (x : Exclusion) (first second : Window)
    (meeting : Option ℕ) : Type 0 where
  pub exclusion : x ≡ exclusion_of inst e
  pub first_window : IsWindowOf inst starts x.first first
  pub second_window : IsWindowOf inst starts x.second second
  pub horizon : IsInHorizon inst first
  pub found : IfSome meeting (IsFirstMeeting inst x.season first second)
  pub none : IfNone meeting ((t : ℕ) → ¬ IsMeeting inst x.season first second t)

apart_of : (inst : Tables) (starts : List ℕ) (e t : ℕ) (x : Exclusion) (first second : Window) → x ≡ exclusion_of inst e
    → IsWindowOf inst starts x.first first → IsWindowOf inst starts x.second second
    → ¬ IsMeeting inst x.season first second t → KeepsApart inst (map Some starts) e t
apart_of inst starts e t x first second ex f s none =
    rw (sym ex) (λ season p. none (record { first = f.periods t ∙ p.0; second = s.periods t ∙ p.1; season = season }))

meets_of : (inst : Tables) (starts : List ℕ) (e t : ℕ) (x : Exclusion) (first second : Window) → x ≡ exclusion_of inst e
    → IsWindowOf inst starts x.first first → IsWindowOf inst starts x.second second
    → IsMeeting inst x.season first second t → ¬ KeepsApart inst (map Some starts) e t
meets_of inst starts e t x first second ex f s m apart =
    let kept = rw (sym ex) at apart in
    kept m.season (sym (f.periods t) ∙ m.first, sym (s.periods t) ∙ m.second)

pub is_broken-tested : (inst : Tables) (starts : List ℕ) (e : ℕ) (x : Exclusion) (first second : Window)
    (meeting : Option ℕ) → IsTested inst starts e x first second meeting → is_some meeting ≡ is_broken inst starts e
unfolding IsInHorizon
is_broken-tested inst starts e x first second (Some t) h = at (clash_rule_at inst (map Some starts) e) refl
  where
    at : (o : Option Rule) → clash_rule_at inst (map Some starts) e ≡ o → true ≡ is_some o
    at (Some r) q = refl
    at None q =
        let within = h.horizon t h.found.one.first in
        absurd (meets_of inst starts e t x first second h.exclusion h.first_window h.second_window h.found.one
        (keeps_apart inst (map Some starts) e q t within.0 within.1))
is_broken-tested inst starts e x first second None h =
    sym (ap is_some
    (clash_rule_at-none inst (map Some starts) e
    (λ t one few. apart_of inst starts e t x first second h.exclusion h.first_window h.second_window (h.none t))))

-- ---- which starts it depends on
start_of-other : (starts : List ℕ) (i s k : ℕ) → k ≢ i
    → start_of (map Some (set starts i s)) k ≡ start_of (map Some starts) k
start_of-other starts i s k other = ap (λ (p : List (Option ℕ)). start_of p k) (map-set Some starts i s)
    ∙ get_or-set_other (map Some starts) i k (Some s) None other

-- the rule from the two starts alone
abbrev clash_of : Tables → ℕ → Option ℕ → Option ℕ → Option Rule
clash_of inst e a b =
    first_of inst.periods
    (λ u. cond
    (in_season_of inst (exclusion_of inst e).season (u + 1) && runs_at inst (exclusion_of inst e).first (u + 1) a
    && runs_at inst (exclusion_of inst e).second (u + 1) b) (Some (Clash e (u + 1))) None)

clash_rule_at-starts : (inst : Tables) (plan : List (Option ℕ)) (e : ℕ) → clash_rule_at inst plan e
    ≡ clash_of inst e (start_of plan (exclusion_of inst e).first) (start_of plan (exclusion_of inst e).second)
unfolding clash_rule_at clashes
clash_rule_at-starts inst plan e = refl

pub is_broken-other : (inst : Tables) (starts : List ℕ) (i s e : ℕ) → (exclusion_of inst e).first ≢ i
    → (exclusion_of inst e).second ≢ i → is_broken inst (set starts i s) e ≡ is_broken inst starts e
is_broken-other inst starts i s e first second =
    let a = start_of-other starts i s (exclusion_of inst e).first first in
    let b = start_of-other starts i s (exclusion_of inst e).second second in
    ap is_some
    (clash_rule_at-starts inst (map Some (set starts i s)) e
    ∙ ap (λ (o : Option ℕ). clash_of inst e o (start_of (map Some (set starts i s)) (exclusion_of inst e).second)) a
    ∙ ap (clash_of inst e (start_of (map Some starts) (exclusion_of inst e).first)) b
    ∙ sym (clash_rule_at-starts inst (map Some starts) e))

-- ---- how many are broken
pub count_set-broken : (inst : Tables) (starts : List ℕ) (flags : List Bool)
    → length flags ≡ length inst.exclusion_names
    → ((e : ℕ) → e < length inst.exclusion_names → get_or flags e false ≡ is_broken inst starts e)
    → count_set flags ≡ clash_count inst (map Some starts)
unfolding count_set clash_count
count_set-broken inst starts flags each right =
    ap (λ (n : ℕ). count_sum n (λ e. bit (get_or flags e false))) each
    ∙ count_sum_same (length inst.exclusion_names) (λ e. bit (get_or flags e false))
    (λ e. bit (is_broken inst starts e)) (λ e l. ap bit (right e l))
