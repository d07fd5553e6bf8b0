-- The plans of the rolled instance are those of the instance that go on with the plan so far, and have the same values.
use Rattle.std.proofs.Common.{◌≡◌, ℕ, ◌+◌, ◌-◌, ◌<◌, ◌≤◌, refl, sym, ◌∙◌, ap, arith, pos, Bool, true}
use Rattle.std.proofs.Common.{false, cond, List, length, Option, Some, None, nat_le, nat_lt, get_or, ◌==◌}
use Rattle.std.proofs.lemmas.Bool.Decides.{nat_tests}
use Rattle.std.proofs.lemmas.List.Elements.{All-get_or}
use Rattle.fixed_num.specs.Floors.{floor_of}
use Rattle.fixed_num.proofs.SumLemmas.{sum_below_same, list_of_same}
use Rattle.instance_model.specs.declared.parts.Exclusion.{Exclusion}
use Rattle.instance_model.specs.Tables.{Tables, scenarios_of, rank_of, is_allowed, in_run, load_of, risk_of, upper_of}
use Rattle.instance_model.specs.Tables.{lower_of, in_season_of, exclusion_of}
use Rattle.instance_model.specs.Fitting.{IsFitting}
use Rattle.instance_model.specs.Plans.{start_of, HasAllowedStart, runs_at, is_running, load_at, load_sum, risk_at}
use Rattle.instance_model.specs.Plans.{scenario_sum, scenario_sums}
use Rattle.instance_model.specs.Rules.{IsWithinBand, KeepsApart, KeepsRules}
use Rattle.instance_model.specs.Values.{numerator_in, sum_of_floors, score_of}
use Rattle.plan_roll.specs.Rolled.{may_start, rolled}
use Rattle.plan_roll.specs.Begun.{BeginsAt, GoesOn}
use Rattle.plan_roll.specs.Laws.{HasSameValues, RollsPlan}
use Rattle.plan_roll.proofs.StartLemmas.{IsLeftStart-from, is_left_by, in_run_is}
use Rattle.plan_roll.proofs.CellLemmas.{load_is}
use Rattle.plan_roll.proofs.RiskLemmas.{risk_is}

-- each intervention has a start that is allowed in the rolled instance
abbrev AllAreLeft : Tables → List (Option ℕ) → ℕ → List (Option ℕ) → Type 0
AllAreLeft inst plan period new = (i : ℕ) → i < length inst.names → HasAllowedStart (rolled inst plan period) new i

-- ---- runs, loads and sums

run_same : (inst : Tables) (plan : List (Option ℕ)) (period : ℕ) (new : List (Option ℕ)) (i t : ℕ)
    → i < length inst.names → HasAllowedStart (rolled inst plan period) new i
    → is_running (rolled inst plan period) new i t ≡ is_running inst new i t
run_same inst plan period new i t h w =
    let left = IsLeftStart-from inst plan period i w.start h w.allowed in
    ap (runs_at (rolled inst plan period) i t) w.given
    ∙ in_run_is inst plan period i w.start t left.same
    ∙ sym (ap (runs_at inst i t) w.given)

load_same : (inst : Tables) (plan : List (Option ℕ)) (period c t i s : ℕ) → IsFitting inst → i < length inst.names
    → is_allowed (rolled inst plan period) i s ≡ true
    → load_at (rolled inst plan period) c t i (Some s) ≡ load_at inst c t i (Some s)
unfolding load_at
load_same inst plan period c t i s f h a =
    let left = IsLeftStart-from inst plan period i s h a in
    ap (λ b. cond b (load_of (rolled inst plan period) i s c t) (pos 0)) (in_run_is inst plan period i s t left.same)
    ∙ ap (λ z. cond (in_run inst i s t) z (pos 0)) (load_is inst plan period i s c t f h a)

loads_same : (inst : Tables) (plan : List (Option ℕ)) (period : ℕ) (new : List (Option ℕ)) → IsFitting inst
    → AllAreLeft inst plan period new → (c t : ℕ) → load_sum (rolled inst plan period) new c t ≡ load_sum inst new c t
unfolding load_sum
loads_same inst plan period new f all c t =
    sum_below_same (length inst.names) (λ i. load_at (rolled inst plan period) c t i (start_of new i))
    (λ i. load_at inst c t i (start_of new i)) (λ i h.
    let w = all i h in
    ap (load_at (rolled inst plan period) c t i) w.given
    ∙ load_same inst plan period c t i w.start f h w.allowed
    ∙ sym (ap (load_at inst c t i) w.given))

risk_same : (inst : Tables) (plan : List (Option ℕ)) (period t k i s : ℕ) → IsFitting inst → i < length inst.names
    → is_allowed (rolled inst plan period) i s ≡ true → 1 ≤ k → k ≤ scenarios_of inst t
    → risk_at (rolled inst plan period) t k i (Some s) ≡ risk_at inst t k i (Some s)
unfolding risk_at
risk_same inst plan period t k i s f h a one few =
    ap (λ b. cond b (risk_of (rolled inst plan period) i s t k) (pos 0))
    (in_run_is inst plan period i s t (IsLeftStart-from inst plan period i s h a).same)
    ∙ by (in_run inst i s t) refl
  where
    by : (b : Bool) → in_run inst i s t ≡ b
        → cond b (risk_of (rolled inst plan period) i s t k) (pos 0) ≡ cond b (risk_of inst i s t k) (pos 0)
    by true r = risk_is inst plan period i s t k f h a r one few
    by false r = refl

sum_same : (inst : Tables) (plan : List (Option ℕ)) (period : ℕ) (new : List (Option ℕ)) → IsFitting inst
    → AllAreLeft inst plan period new → (t k : ℕ) → 1 ≤ k → k ≤ scenarios_of inst t
    → scenario_sum (rolled inst plan period) new t k ≡ scenario_sum inst new t k
unfolding scenario_sum
sum_same inst plan period new f all t k one few =
    sum_below_same (length inst.names) (λ i. risk_at (rolled inst plan period) t k i (start_of new i))
    (λ i. risk_at inst t k i (start_of new i)) (λ i h.
    let w = all i h in
    ap (risk_at (rolled inst plan period) t k i) w.given
    ∙ risk_same inst plan period t k i w.start f h w.allowed one few
    ∙ sym (ap (risk_at inst t k i) w.given))

sums_same : (inst : Tables) (plan : List (Option ℕ)) (period : ℕ) (new : List (Option ℕ)) → IsFitting inst
    → AllAreLeft inst plan period new → (t : ℕ)
    → scenario_sums (rolled inst plan period) new t ≡ scenario_sums inst new t
unfolding scenario_sums scenarios_of
sums_same inst plan period new f all t =
    list_of_same (get_or inst.scenarios (t - 1) 0) (λ k. scenario_sum (rolled inst plan period) new t (k + 1))
    (λ k. scenario_sum inst new t (k + 1))
    (λ k h. sum_same inst plan period new f all t (k + 1) (omega arith) (omega (arith, h)))

-- ---- the score

score_same : (inst : Tables) (plan : List (Option ℕ)) (period : ℕ) (new : List (Option ℕ))
    → ((t : ℕ) → scenario_sums (rolled inst plan period) new t ≡ scenario_sums inst new t)
    → score_of (rolled inst plan period) new ≡ score_of inst new
unfolding sum_of_floors rank_of scenarios_of
score_same inst plan period new h =
    sum_below_same inst.periods _ _
    (λ u l. ap (λ xs. floor_of (numerator_in inst.alpha (rank_of inst (u + 1)) xs) (scenarios_of inst (u + 1)))
    (h (u + 1)))

pub values_same : (inst : Tables) (plan : List (Option ℕ)) (period : ℕ) (new : List (Option ℕ)) → IsFitting inst
    → AllAreLeft inst plan period new → HasSameValues (rolled inst plan period) inst new
values_same inst plan period new f all = record {
  loads = loads_same inst plan period new f all;
  sums = sums_same inst plan period new f all;
  score = score_same inst plan period new (sums_same inst plan period new f all);
}

-- ---- starts

begins_or_not : (plan : List (Option ℕ)) (period i s : ℕ) → may_start period (start_of plan i) s ≡ true
    → (b : ℕ) → BeginsAt plan period i b → s ≡ b
unfolding may_start
begins_or_not plan period i s e b w =
    by (nat_lt b period) refl (sym (ap (λ o. may_start period o s) w.given) ∙ e)
  where
    by : (x : Bool) → nat_lt b period ≡ x → cond x (s == b) (nat_le period s) ≡ true → s ≡ b
    by true k e = grind (arith, nat_tests)
    by false k e = let l = w.before in absurd (grind (arith, nat_tests))

free_is_later : (plan : List (Option ℕ)) (period i s : ℕ) → may_start period (start_of plan i) s ≡ true
    → ((b : ℕ) → BeginsAt plan period i b → ⊥) → period ≤ s
unfolding may_start
free_is_later plan period i s e none = at (start_of plan i) refl e
  where
    at : (o : Option ℕ) → start_of plan i ≡ o → may_start period o s ≡ true → period ≤ s
    at None g e = grind (arith, nat_tests)
    at (Some b) g e = by (nat_lt b period) refl e
      where
        by : (x : Bool) → nat_lt b period ≡ x → cond x (s == b) (nat_le period s) ≡ true → period ≤ s
        by true k e =
            let low : b < period = grind (arith, nat_tests) in absurd (none b (record { given = g; before = low }))
        by false k e = grind (arith, nat_tests)

pub goes_on : (inst : Tables) (plan : List (Option ℕ)) (period : ℕ) (new : List (Option ℕ))
    → AllAreLeft inst plan period new → GoesOn inst plan period new
goes_on inst plan period new all = record {
  kept = λ i b h w.
      let own = all i h in
      let left = IsLeftStart-from inst plan period i own.start h own.allowed in
      own.given ∙ ap Some (begins_or_not plan period i own.start left.may b w);
  later = λ i s h none g.
      let own = all i h in
      let left = IsLeftStart-from inst plan period i own.start h own.allowed in
      let same : own.start ≡ s = some_same own.start s (sym own.given ∙ g) in
      omega (arith, same, free_is_later plan period i own.start left.may none);
}
  where
    some_same : (a b : ℕ) → Some a ≡ Some b → a ≡ b
    some_same a b e = cc

may_by : (inst : Tables) (plan : List (Option ℕ)) (period : ℕ) (new : List (Option ℕ)) (i s : ℕ)
    → GoesOn inst plan period new → i < length inst.names → start_of new i ≡ Some s
    → may_start period (start_of plan i) s ≡ true
unfolding may_start
may_by inst plan period new i s on h g = at (start_of plan i) refl
  where
    some_same : (a b : ℕ) → Some a ≡ Some b → a ≡ b
    some_same a b e = cc

    not_some : (b : ℕ) → Some b ≡ None → ⊥
    not_some b e = cc

    at : (o : Option ℕ) → start_of plan i ≡ o → may_start period o s ≡ true
    at None e =
        let low : period ≤ s = on.later i s h (λ b w. not_some b (sym w.given ∙ e)) g in grind (arith, nat_tests)
    at (Some b) e = by (nat_lt b period) refl
      where
        by : (x : Bool) → nat_lt b period ≡ x → cond x (s == b) (nat_le period s) ≡ true
        by true k =
            let low : b < period = grind (arith, nat_tests) in
            let own = on.kept i b h (record { given = e; before = low }) in
            let same : s ≡ b = some_same s b (sym g ∙ own) in
            grind (arith, nat_tests)
        by false k =
            let high : period ≤ b = grind (arith, nat_tests) in
            let low : period ≤ s = on.later i s h (λ d w.
            let same : d ≡ b = some_same d b (sym w.given ∙ e) in omega (arith, same, w.before, high)) g in
            grind (arith, nat_tests)

pub all_are_left : (inst : Tables) (plan : List (Option ℕ)) (period : ℕ) (new : List (Option ℕ))
    → GoesOn inst plan period new → ((i : ℕ) → i < length inst.names → HasAllowedStart inst new i)
    → AllAreLeft inst plan period new
all_are_left inst plan period new on all i h =
    let own = all i h in
    record {
      start = own.start;
      given = own.given;
      allowed = is_left_by inst plan period i own.start h (may_by inst plan period new i own.start on h own.given)
          own.allowed;
    }

-- ---- rules

apart_same : (inst : Tables) (plan : List (Option ℕ)) (period : ℕ) (new : List (Option ℕ)) (e t : ℕ) → IsFitting inst
    → AllAreLeft inst plan period new → e < length inst.exclusion_names
    → (KeepsApart (rolled inst plan period) new e t → KeepsApart inst new e t)
    × (KeepsApart inst new e t → KeepsApart (rolled inst plan period) new e t)
unfolding in_season_of exclusion_of
apart_same inst plan period new e t f all h = (to, back)
  where
    x : Exclusion
    x = exclusion_of inst e

    numbers : (x.first < length inst.names) × (x.second < length inst.names) × (x.season < length inst.season_names)
    numbers = All-get_or (λ x. (x.first < length inst.names) × (x.second < length inst.names)
        × (x.season < length inst.season_names)) inst.excluded e (record { first = 0; second = 0; season = 0 })
        (omega (arith, f.excluded_each, h)) f.excluded

    one : is_running (rolled inst plan period) new x.first t ≡ is_running inst new x.first t
    one = run_same inst plan period new x.first t numbers.0 (all x.first numbers.0)

    two : is_running (rolled inst plan period) new x.second t ≡ is_running inst new x.second t
    two = run_same inst plan period new x.second t numbers.1 (all x.second numbers.1)

    to : KeepsApart (rolled inst plan period) new e t → KeepsApart inst new e t
    to k s (a, b) = k s (one ∙ a, two ∙ b)

    back : KeepsApart inst new e t → KeepsApart (rolled inst plan period) new e t
    back k s (a, b) = k s (sym one ∙ a, sym two ∙ b)

bands_to : (inst : Tables) (plan : List (Option ℕ)) (period : ℕ) (new : List (Option ℕ)) (c t : ℕ)
    → load_sum (rolled inst plan period) new c t ≡ load_sum inst new c t
    → IsWithinBand (rolled inst plan period) new c t → IsWithinBand inst new c t
unfolding upper_of lower_of
bands_to inst plan period new c t e w = record {
  not_below = rw e at w.not_below;
  not_above = rw e at w.not_above;
}

bands_back : (inst : Tables) (plan : List (Option ℕ)) (period : ℕ) (new : List (Option ℕ)) (c t : ℕ)
    → load_sum (rolled inst plan period) new c t ≡ load_sum inst new c t
    → IsWithinBand inst new c t → IsWithinBand (rolled inst plan period) new c t
unfolding upper_of lower_of
bands_back inst plan period new c t e w = record {
  not_below = rw e w.not_below;
  not_above = rw e w.not_above;
}

keeps_to : (inst : Tables) (plan : List (Option ℕ)) (period : ℕ) (new : List (Option ℕ)) → IsFitting inst
    → KeepsRules (rolled inst plan period) new → KeepsRules inst new
keeps_to inst plan period new f k = record {
  starts = λ i h.
      let own = k.starts i h in
      record {
        start = own.start;
        given = own.given;
        allowed = (IsLeftStart-from inst plan period i own.start h own.allowed).allowed;
      };
  loads = λ c t l one few. bands_to inst plan period new c t (loads_same inst plan period new f k.starts c t)
      (k.loads c t l one few);
  seasons = λ e t l one few. (apart_same inst plan period new e t f k.starts l).0 (k.seasons e t l one few);
}

keeps_back : (inst : Tables) (plan : List (Option ℕ)) (period : ℕ) (new : List (Option ℕ)) → IsFitting inst
    → KeepsRules inst new → GoesOn inst plan period new → KeepsRules (rolled inst plan period) new
keeps_back inst plan period new f k on =
    let all = all_are_left inst plan period new on k.starts in
    record {
      starts = all;
      loads = λ c t l one few. bands_back inst plan period new c t (loads_same inst plan period new f all c t)
          (k.loads c t l one few);
      seasons = λ e t l one few. (apart_same inst plan period new e t f all l).1 (k.seasons e t l one few);
    }

pub plans_law : (inst : Tables) (plan : List (Option ℕ)) (period : ℕ) → IsFitting inst → (new : List (Option ℕ))
    → RollsPlan inst plan period new
plans_law inst plan period f new = record {
  feasible = (
    λ k. (keeps_to inst plan period new f k, goes_on inst plan period new k.starts),
    λ p. keeps_back inst plan period new f p.0 p.1,
  );
  values = λ k. values_same inst plan period new f k.starts;
}
