-- Scenario sums of a board on which one start changes.
use Rattle.std.proofs.Common.{◌≡◌, ℕ, ◌+◌, ◌<◌, ◌≤◌, refl, sym, ◌∙◌, ap, arith, ℤ, pos, ◌+ℤ◌, ◌-ℤ◌, List, Option, Some}
use Rattle.std.proofs.Common.{None, length, true, false, IsTrue, IfSome}
use Rattle.std.proofs.Math.ListN.{set}
use Rattle.fixed_num.proofs.SignedLemmas.{signed_arith}
use Rattle.fixed_num.proofs.SumLemmas.{get_or-list_of, list_of_same}
use Rattle.instance_model.specs.Fitting.{IsFitting}
use Rattle.instance_model.specs.Tables.{Tables, scenarios_of, rank_of, in_run, risk_of, is_allowed}
use Rattle.instance_model.specs.Plans.{start_of, risk_at, scenario_sum, scenario_sums}
use Rattle.instance_model.proofs.BoardLemmas.{scenario_sum-set, risk_at-none, risk_at-idle, risk_at-running}
use Rattle.instance_model.proofs.FitLemmas.{scenarios_of_small}
use Rattle.instance_model.proofs.PlanLemmas.{length-scenario_sums, scenario_sums_small}
use Rattle.scenario_rows.specs.declared.change.Change.{Change}
use Rattle.scenario_rows.specs.declared.change.Change.TheVariants.{Add, Take}
use Rattle.scenario_rows.specs.RiskStates.{PeriodState, period_of}
use Rattle.scenario_rows.specs.Parts.{AreRowSums}
use Rattle.scenario_rows.specs.Changes.{changed, changed_sums, changed_period}
use Rattle.scenario_rows.specs.RunChanges.{start_before, start_after}
use Rattle.scenario_rows.proofs.RowLemmas.{changed_sums-from}

-- the scenario sums of a period are those of a row
pub AreRowSums-scenario_sums : (inst : Tables) (board : List (Option ℕ)) (t : ℕ) → IsFitting inst → 1 ≤ t
    → t ≤ inst.periods → AreRowSums (scenario_sums inst board t)
AreRowSums-scenario_sums inst board t f from to =
    let n = scenarios_of_small inst t f from to in
    record {
      some = omega (arith, n, length-scenario_sums inst board t);
      few = omega (arith, n, length-scenario_sums inst board t);
      small = scenario_sums_small inst board t f;
    }

-- ---- one start of a board is another

-- the risk that an intervention adds before a change and after it, in a period of the run
abbrev changed_before : Change → ℤ → ℤ
changed_before Add risk = pos 0
changed_before Take risk = risk

abbrev changed_after : Change → ℤ → ℤ
changed_after Add risk = risk
changed_after Take risk = pos 0

-- what a change of the risks before and after makes of a sum
by_risks : (change : Change) (sum before after risk : ℤ) → before ≡ changed_before change risk
    → after ≡ changed_after change risk → (sum -ℤ before) +ℤ after ≡ changed change sum risk
by_risks Add sum before after risk e f = rw (e, f) (step sum risk)
  where
    step : (s r : ℤ) → (s -ℤ pos 0) +ℤ r ≡ s +ℤ r
    step s r = omega (arith, signed_arith)
by_risks Take sum before after risk e f = rw (e, f) (step sum risk)
  where
    step : (s r : ℤ) → (s -ℤ r) +ℤ pos 0 ≡ s -ℤ r
    step s r = omega (arith, signed_arith)

before_is : (change : Change) (inst : Tables) (t k i s : ℕ) (o : Option ℕ) → o ≡ start_before change s
    → in_run inst i s t ≡ true → risk_at inst t k i o ≡ changed_before change (risk_of inst i s t k)
before_is Add inst t k i s o e r = risk_at-none inst t k i o e
before_is Take inst t k i s o e r = risk_at-running inst t k i s o e r

after_is : (change : Change) (inst : Tables) (t k i s : ℕ) → in_run inst i s t ≡ true
    → risk_at inst t k i (start_after change s) ≡ changed_after change (risk_of inst i s t k)
after_is Add inst t k i s r = risk_at-running inst t k i s (Some s) refl r
after_is Take inst t k i s r = risk_at-none inst t k i None refl

-- in a period of the run each sum changes by its risk
pub scenario_sum-changed : (change : Change) (inst : Tables) (board : List (Option ℕ)) (i s t k : ℕ)
    → length board ≡ length inst.names → i < length inst.names → start_of board i ≡ start_before change s
    → in_run inst i s t ≡ true → scenario_sum inst (set board i (start_after change s)) t k
    ≡ changed change (scenario_sum inst board t k) (risk_of inst i s t k)
scenario_sum-changed change inst board i s t k each h e r =
    scenario_sum-set inst board i (start_after change s) t k each h
    ∙ by_risks change (scenario_sum inst board t k) (risk_at inst t k i (start_of board i))
    (risk_at inst t k i (start_after change s)) (risk_of inst i s t k)
    (before_is change inst t k i s (start_of board i) e r) (after_is change inst t k i s r)

pub scenario_sums-changed : (change : Change) (inst : Tables) (board : List (Option ℕ)) (i s t : ℕ)
    → length board ≡ length inst.names → i < length inst.names → start_of board i ≡ start_before change s
    → in_run inst i s t ≡ true → scenario_sums inst (set board i (start_after change s)) t
    ≡ changed_sums inst change i s t (scenario_sums inst board t)
unfolding scenario_sums
scenario_sums-changed change inst board i s t each h e r =
    let new = set board i (start_after change s) in
    let n = scenarios_of inst t in
    changed_sums-from inst change i s t (scenario_sums inst board t) (scenario_sums inst new t)
    (length-scenario_sums inst new t ∙ sym (length-scenario_sums inst board t)) (λ k l.
    let low : k < n = omega (arith, l, length-scenario_sums inst board t) in
    get_or-list_of n (λ k. scenario_sum inst new t (k + 1)) k low
    ∙ scenario_sum-changed change inst board i s t (k + 1) each h e r
    ∙ ap (λ (x : ℤ). changed change x (risk_of inst i s t (k + 1)))
    (sym (get_or-list_of n (λ k. scenario_sum inst board t (k + 1)) k low)))

-- in any other period they stay
idle_at : (change : Change) (inst : Tables) (t k i s : ℕ) (o : Option ℕ) → (o ≡ start_before change s)
    → in_run inst i s t ≡ false → risk_at inst t k i o ≡ pos 0
idle_at Add inst t k i s o e r = risk_at-none inst t k i o e
idle_at Take inst t k i s o e r = risk_at-idle inst t k i s o e r

idle_after : (change : Change) (inst : Tables) (t k i s : ℕ) → in_run inst i s t ≡ false
    → risk_at inst t k i (start_after change s) ≡ pos 0
idle_after Add inst t k i s r = risk_at-idle inst t k i s (Some s) refl r
idle_after Take inst t k i s r = risk_at-none inst t k i None refl

pub scenario_sums-idle : (change : Change) (inst : Tables) (board : List (Option ℕ)) (i s t : ℕ)
    → length board ≡ length inst.names → i < length inst.names → start_of board i ≡ start_before change s
    → in_run inst i s t ≡ false → scenario_sums inst (set board i (start_after change s)) t ≡ scenario_sums inst board t
unfolding scenario_sums
scenario_sums-idle change inst board i s t each h e r =
    list_of_same (scenarios_of inst t) (λ k. scenario_sum inst (set board i (start_after change s)) t (k + 1))
    (λ k. scenario_sum inst board t (k + 1)) (λ k l.
    scenario_sum-set inst board i (start_after change s) t (k + 1) each h
    ∙ stays (scenario_sum inst board t (k + 1)) (risk_at inst t (k + 1) i (start_of board i))
    (risk_at inst t (k + 1) i (start_after change s)) (idle_at change inst t (k + 1) i s (start_of board i) e r)
    (idle_after change inst t (k + 1) i s r))
  where
    stays : (sum a b : ℤ) → a ≡ pos 0 → b ≡ pos 0 → (sum -ℤ a) +ℤ b ≡ sum
    stays sum a b e f = rw (e, f) (omega (arith, signed_arith))

-- ---- the same of periods

abbrev pub at_sums : Tables → ℕ → List ℤ → PeriodState
at_sums inst t xs = record { alpha = inst.alpha; rank = rank_of inst t; sums = xs }

pub period_of-changed : (change : Change) (inst : Tables) (board : List (Option ℕ)) (i s t : ℕ)
    → length board ≡ length inst.names → i < length inst.names → start_of board i ≡ start_before change s
    → in_run inst i s t ≡ true → changed_period inst change i s t (period_of inst board t) ≡ period_of inst (set board i
    (start_after change s)) t
period_of-changed change inst board i s t each h e r =
    ap (at_sums inst t) (sym (scenario_sums-changed change inst board i s t each h e r))

pub period_of-idle : (change : Change) (inst : Tables) (board : List (Option ℕ)) (i s t : ℕ)
    → length board ≡ length inst.names → i < length inst.names → start_of board i ≡ start_before change s
    → in_run inst i s t ≡ false → period_of inst board t ≡ period_of inst (set board i (start_after change s)) t
period_of-idle change inst board i s t each h e r =
    ap (at_sums inst t) (sym (scenario_sums-idle change inst board i s t each h e r))

-- what stands on board after a change is allowed
pub allowed_after : (change : Change) (inst : Tables) (i s : ℕ) → IsTrue (is_allowed inst i s)
    → IfSome (start_after change s) (λ s. IsTrue (is_allowed inst i s))
allowed_after Add inst i s h = h
allowed_after Take inst i s h = tt
