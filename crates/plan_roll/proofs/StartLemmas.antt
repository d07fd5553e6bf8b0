-- Durations of the rolled instance, and the starts that are left.
use Rattle.std.proofs.Common.{◌≡◌, ℕ, ◌+◌, ◌-◌, ◌<◌, ◌≤◌, refl, ◌∙◌, ap, arith, Bool, true, false, ◌&&◌, List, []}
use Rattle.std.proofs.Common.{length, get_or, Option, nat_le, nat_lt}
use Rattle.std.proofs.lemmas.Bool.Decides.{nat_tests}
use Rattle.std.proofs.lemmas.List.FromFn.{length-map-range_with_len, get_or-map-range_with_len}
use Rattle.instance_model.specs.Tables.{Tables, durations, tmax, delta_of, allowed_of, is_allowed, in_run}
use Rattle.instance_model.specs.Plans.{start_of}
use Rattle.instance_model.proofs.EntryLemmas.{is_allowed_facts}
use Rattle.plan_roll.specs.Rolled.{may_start, rolled_delta, rolled_durations, is_left, rolled}

-- ---- durations

-- the row of intervention i
pub row_is : (inst : Tables) (plan : List (Option ℕ)) (period i : ℕ) → i < length inst.names
    → get_or (rolled inst plan period).delta i [] ≡ rolled_durations inst plan period i
row_is inst plan period i h =
    get_or-map-range_with_len (rolled_durations inst plan period) 0 (length inst.names) i i [] h (omega arith)

pub durations_are : (inst : Tables) (plan : List (Option ℕ)) (period i : ℕ) → i < length inst.names
    → durations (rolled inst plan period) i ≡ rolled_durations inst plan period i
unfolding durations
durations_are inst plan period i h = row_is inst plan period i h

pub length-durations : (inst : Tables) (plan : List (Option ℕ)) (period i : ℕ)
    → length (rolled_durations inst plan period i) ≡ tmax inst i
unfolding rolled_durations
length-durations inst plan period i =
    length-map-range_with_len (λ k. rolled_delta inst plan period i (k + 1)) 0 (tmax inst i)

pub tmax_is : (inst : Tables) (plan : List (Option ℕ)) (period i : ℕ) → i < length inst.names
    → tmax (rolled inst plan period) i ≡ tmax inst i
unfolding tmax
tmax_is inst plan period i h = ap length (durations_are inst plan period i h) ∙ length-durations inst plan period i

pub duration_at : (inst : Tables) (plan : List (Option ℕ)) (period i k : ℕ) → k < tmax inst i
    → get_or (rolled_durations inst plan period i) k 0 ≡ rolled_delta inst plan period i (k + 1)
unfolding rolled_durations
duration_at inst plan period i k h =
    get_or-map-range_with_len (λ k. rolled_delta inst plan period i (k + 1)) 0 (tmax inst i) k k 0 h (omega arith)

pub delta_is : (inst : Tables) (plan : List (Option ℕ)) (period i s : ℕ) → i < length inst.names → 1 ≤ s
    → s ≤ tmax inst i → delta_of (rolled inst plan period) i s ≡ rolled_delta inst plan period i s
unfolding delta_of
delta_is inst plan period i s h one few =
    let same : s - 1 + 1 ≡ s = omega arith in
    ap (λ ds. get_or ds (s - 1) 0) (durations_are inst plan period i h)
    ∙ duration_at inst plan period i (s - 1) (omega arith)
    ∙ ap (rolled_delta inst plan period i) same

pub delta_left : (inst : Tables) (plan : List (Option ℕ)) (period i s : ℕ) → may_start period (start_of plan i) s ≡ true
    → rolled_delta inst plan period i s ≡ delta_of inst i s
unfolding rolled_delta
delta_left inst plan period i s e = rw e refl

pub delta_past : (inst : Tables) (plan : List (Option ℕ)) (period i s : ℕ)
    → may_start period (start_of plan i) s ≡ false
    → rolled_delta inst plan period i s ≡ inst.periods + 1
unfolding rolled_delta
delta_past inst plan period i s e = rw e refl

-- ---- allowed starts

allowed_by : (periods : ℕ) (ds : List ℕ) (s : ℕ) → 1 ≤ s → s ≤ length ds → s + get_or ds (s - 1) 0 ≤ periods + 1
    → allowed_of periods ds s ≡ true
unfolding allowed_of
allowed_by periods ds s one few ends = grind (arith, nat_tests)

pub is_allowed_by : (inst : Tables) (i s : ℕ) → 1 ≤ s → s ≤ tmax inst i → s + delta_of inst i s ≤ inst.periods + 1
    → is_allowed inst i s ≡ true
unfolding is_allowed tmax delta_of
is_allowed_by inst i s = allowed_by inst.periods (durations inst i) s

-- a start that is left is allowed in the instance, with the same duration
pub record IsLeftStart (inst : Tables) (plan : List (Option ℕ)) (period i s : ℕ) : Type 0 where
  pub may : may_start period (start_of plan i) s ≡ true
  pub allowed : is_allowed inst i s ≡ true
  pub same : delta_of (rolled inst plan period) i s ≡ delta_of inst i s

pub IsLeftStart-from : (inst : Tables) (plan : List (Option ℕ)) (period i s : ℕ) → i < length inst.names
    → is_allowed (rolled inst plan period) i s ≡ true → IsLeftStart inst plan period i s
IsLeftStart-from inst plan period i s h a = by (may_start period (start_of plan i) s) refl
  where
    facts : (1 ≤ s) × (s ≤ tmax (rolled inst plan period) i)
        × (s + delta_of (rolled inst plan period) i s ≤ inst.periods + 1)
    facts = is_allowed_facts (rolled inst plan period) i s a

    among : s ≤ tmax inst i
    among = omega (arith, facts.1, tmax_is inst plan period i h)

    is : delta_of (rolled inst plan period) i s ≡ rolled_delta inst plan period i s
    is = delta_is inst plan period i s h facts.0 among

    by : (b : Bool) → may_start period (start_of plan i) s ≡ b → IsLeftStart inst plan period i s
    by true e =
        let same : delta_of (rolled inst plan period) i s ≡ delta_of inst i s =
        is ∙ delta_left inst plan period i s e in
        record {
          may = e;
          allowed = is_allowed_by inst i s facts.0 among (omega (arith, facts.2, same));
          same = same;
        }
    by false e = absurd (omega (arith, facts.0, facts.2, is ∙ delta_past inst plan period i s e))

pub is_left_by : (inst : Tables) (plan : List (Option ℕ)) (period i s : ℕ) → i < length inst.names
    → may_start period (start_of plan i) s ≡ true → is_allowed inst i s ≡ true
    → is_allowed (rolled inst plan period) i s ≡ true
is_left_by inst plan period i s h e a =
    let facts = is_allowed_facts inst i s a in
    let same : delta_of (rolled inst plan period) i s ≡ delta_of inst i s =
    delta_is inst plan period i s h facts.0 facts.1 ∙ delta_left inst plan period i s e in
    is_allowed_by (rolled inst plan period) i s facts.0 (omega (arith, facts.1, tmax_is inst plan period i h))
    (omega (arith, facts.2, same))

-- the test of the definition is that of the rolled instance
pub is_left_is : (inst : Tables) (plan : List (Option ℕ)) (period i s : ℕ)
    → is_left inst plan period i s ≡ is_allowed (rolled inst plan period) i s
unfolding is_left is_allowed durations
is_left_is inst plan period i s = refl

-- a run is the same
pub in_run_is : (inst : Tables) (plan : List (Option ℕ)) (period i s t : ℕ)
    → delta_of (rolled inst plan period) i s ≡ delta_of inst i s
    → in_run (rolled inst plan period) i s t ≡ in_run inst i s t
unfolding in_run
in_run_is inst plan period i s t e = ap (λ d. nat_le s t && nat_lt t (s + d)) e
