-- Rows over an instance, as their periods change one after another.
use Rattle.std.proofs.Common.{◌≡◌, ℕ, ◌+◌, ◌-◌, ◌*◌, ◌<◌, ◌≤◌, sym, ◌∙◌, ap, subst, arith, List, [], ◌∷◌, Option, Some}
use Rattle.std.proofs.Common.{None, length, map, get_or, max, fold, true, IsTrue, inl, inr, zero, suc, get_or-set_same}
use Rattle.std.proofs.Common.{get_or-set_other}
use Rattle.std.specs.Prelude.{IfSome}
use Rattle.std.specs.List.{range_with_len, All}
use Rattle.std.proofs.Math.ListN.{set}
use Rattle.std.proofs.Math.Nat.{le-max_left, le-max_right}
use Rattle.std.proofs.lemmas.Bool.{cases_lt}
use Rattle.std.proofs.lemmas.List.{length-set, length-map}
use Rattle.std.proofs.lemmas.List.FromFn.{length-map-range_with_len, get_or-map-range_with_len, fill_by_all}
use Rattle.std.proofs.lemmas.Nat.{mul-le}
use Rattle.instance_model.specs.Fitting.{IsFitting}
use Rattle.instance_model.specs.Tables.{Tables, scenarios_of, in_run, delta_of, is_allowed}
use Rattle.instance_model.specs.Plans.{start_of, AreAllowedStarts}
use Rattle.instance_model.proofs.BoardLemmas.{in_run-before, in_run-behind, RunsAreAllowed-starts, RunsAreAllowed-set}
use Rattle.instance_model.proofs.PlanLemmas.{length-scenario_sums}
use Rattle.quantile_index.specs.Row.{Grows}
use Rattle.scenario_rows.specs.declared.change.Change.{Change}
use Rattle.scenario_rows.specs.RiskStates.{PeriodState, RiskState, period_of, IsOver}
use Rattle.scenario_rows.specs.Bounds.{most_scenarios, period_bound}
use Rattle.scenario_rows.specs.Parts.{AreRowSums, period_at}
use Rattle.scenario_rows.specs.Changes.{changed_period, CanChange, AreChangedBelow}
use Rattle.scenario_rows.specs.RunChanges.{start_before, start_after}
use Rattle.scenario_rows.proofs.BoardLemmas.{AreRowSums-scenario_sums, scenario_sums-changed, period_of-changed}
use Rattle.scenario_rows.proofs.BoardLemmas.{period_of-idle, allowed_after}

abbrev no_period : PeriodState
no_period = record { alpha = 0; rank = 0; sums = [] }

pub period_at-over : (inst : Tables) (v : RiskState) (t : ℕ) → IsOver inst v → 1 ≤ t → t ≤ inst.periods
    → period_at v.periods t ≡ period_of inst v.board t
period_at-over inst v t over from to =
    let place : t - 1 + 1 ≡ t = omega arith in
    ap (λ (ps : List PeriodState). period_at ps t) over.periods
    ∙ get_or-map-range_with_len (λ u. period_of inst v.board (u + 1)) 0 inst.periods (t - 1) (t - 1) no_period
    (omega arith) (omega arith)
    ∙ ap (period_of inst v.board) place

-- before the run no period has changed
pub AreChangedBelow-start : (change : Change) (inst : Tables) (v : RiskState) (i s : ℕ) → IsOver inst v
    → i < length inst.names → start_of v.board i ≡ start_before change s
    → AreChangedBelow inst v.board (set v.board i (start_after change s)) s v.periods
AreChangedBelow-start change inst v i s over h e =
    record {
      each = ap length over.periods ∙ length-map-range_with_len (λ u. period_of inst v.board (u + 1)) 0 inst.periods;
      below = λ u from less to. period_at-over inst v u over from to
          ∙ period_of-idle change inst v.board i s u over.each h e (in_run-before inst i s u less);
      above = λ u from l to. period_at-over inst v u over from to;
    }

-- the next period can change
pub CanChange-at : (change : Change) (inst : Tables) (board : List (Option ℕ)) (i s t : ℕ) (periods : List PeriodState)
    → IsFitting inst → length board ≡ length inst.names → i < length inst.names
    → start_of board i ≡ start_before change s → IsTrue (is_allowed inst i s) → in_run inst i s t ≡ true → 1 ≤ t
    → t ≤ inst.periods → AreChangedBelow inst board (set board i (start_after change s)) t periods
    → CanChange inst change i s t (period_at periods t).sums
CanChange-at change inst board i s t periods fit each h e allowed running from to below =
    let p : period_at periods t ≡ period_of inst board t = below.above t from (omega arith) to in
    subst (λ (x : PeriodState). CanChange inst change i s t x.sums) (sym p) (record {
      number = h;
      allowed = allowed;
      running = running;
      from = from;
      to = to;
      each = length-scenario_sums inst board t;
      row = subst AreRowSums (scenario_sums-changed change inst board i s t each h e running)
          (AreRowSums-scenario_sums inst (set board i (start_after change s)) t fit from to);
    })

-- one period more has changed
pub AreChangedBelow-more : (change : Change) (inst : Tables) (board : List (Option ℕ)) (i s t : ℕ) (periods next : List
    PeriodState) → length board ≡ length inst.names → i < length inst.names → start_of board i ≡ start_before change s
    → in_run inst i s t ≡ true → 1 ≤ t → t ≤ inst.periods
    → AreChangedBelow inst board (set board i (start_after change s)) t periods
    → next ≡ set periods (t - 1) (changed_period inst change i s t (period_at periods t))
    → AreChangedBelow inst board (set board i (start_after change s)) (t + 1) next
AreChangedBelow-more change inst board i s t periods next each h e running from to old is =
    let p = changed_period inst change i s t (period_at periods t) in
    let here : period_at next t ≡ period_of inst (set board i (start_after change s)) t =
    ap (λ (ps : List PeriodState). period_at ps t) is
    ∙ get_or-set_same periods (t - 1) p no_period (omega (arith, old.each, from, to))
    ∙ ap (changed_period inst change i s t) (old.above t from (omega arith) to)
    ∙ period_of-changed change inst board i s t each h e running in
    let other : (u : ℕ) → 1 ≤ u → (u ≡ t → ⊥) → period_at next u ≡ period_at periods u = λ u l ne.
    ap (λ (ps : List PeriodState). period_at ps u) is
    ∙ get_or-set_other periods (t - 1) (u - 1) p no_period (λ q. ne (omega (arith, q, l, from))) in
    record {
      each = ap length is ∙ length-set periods (t - 1) p ∙ old.each;
      below = λ u l less few. elim (cases_lt u t) [
        | inl m ↦ other u l (λ q. absurd (omega (arith, q, m))) ∙ old.below u l m few
        | inr m ↦ let same : u ≡ t = omega (arith, m, less) in
            subst (λ (x : ℕ). period_at next x ≡ period_of inst (set board i (start_after change s)) x) (sym same) here
      ];
      above =
          λ u l more few. other u l (λ q. absurd (omega (arith, q, more))) ∙ old.above u l (omega (arith, more)) few;
    }

-- behind the run all have
pub IsOver-changed : (change : Change) (inst : Tables) (v : RiskState) (i s t : ℕ) (periods : List PeriodState)
    → IsOver inst v → i < length inst.names → start_of v.board i ≡ start_before change s → IsTrue (is_allowed inst i s)
    → s + delta_of inst i s ≤ t → AreChangedBelow inst v.board (set v.board i (start_after change s)) t periods
    → IsOver inst (record { board = set v.board i (start_after change s); periods = periods })
IsOver-changed change inst v i s t periods over h e allowed past below =
    let new = set v.board i (start_after change s) in
    record {
      each = length-set v.board i (start_after change s) ∙ over.each;
      allowed =
          RunsAreAllowed-set inst v.board i (start_after change s) over.allowed (allowed_after change inst i s allowed);
      periods = fill_by_all (λ u. period_of inst new (u + 1)) periods inst.periods no_period below.each (λ k l.
          let place : k + 1 - 1 ≡ k = omega arith in
          let at : period_at periods (k + 1) ≡ period_of inst new (k + 1) = elim (cases_lt (k + 1) t) [
            | inl m ↦ below.below (k + 1) (omega arith) m (omega (arith, l))
            | inr m ↦ below.above (k + 1) (omega arith) m (omega (arith, l))
                ∙ period_of-idle change inst v.board i s (k + 1) over.each h e
                (in_run-behind inst i s (k + 1) (omega (arith, past, m)))
          ] in
          rw place at at);
    }

pub IsOver-same : (inst : Tables) (b c : List (Option ℕ)) (p q : List PeriodState) → b ≡ c → p ≡ q
    → IsOver inst (record { board = c; periods = q }) → IsOver inst (record { board = b; periods = p })
IsOver-same inst b c p q e f h = rw (e, f) h

-- all on board
pub IsOver-starts : (inst : Tables) (starts : List ℕ) (periods : List PeriodState) → AreAllowedStarts inst starts
    → periods ≡ map (λ u. period_of inst (map Some starts) (u + 1)) (range_with_len 0 inst.periods)
    → IsOver inst (record { board = map Some starts; periods = periods })
IsOver-starts inst starts periods a e =
    record { each = length-map starts Some ∙ a.each; allowed = RunsAreAllowed-starts inst starts a; periods = e }

-- ---- room

-- no period of a board has more sums than the longest period has scenarios
pub room_for : (inst : Tables) (board : List (Option ℕ)) (periods : List PeriodState) (n size : ℕ)
    → periods ≡ map (λ k. period_of inst board (k + 1)) (range_with_len 0 n) → n ≤ inst.periods
    → ((t : ℕ) → 1 ≤ t → t ≤ inst.periods → scenarios_of inst t ≤ size) → All (λ p. length p.sums ≤ size) periods
room_for inst board periods n size made few most = λ k d l.
    let low : k < n =
    omega (arith, l, ap length made, length-map-range_with_len (λ k. period_of inst board (k + 1)) 0 n) in
    let at = ap (λ (ps : List PeriodState). get_or ps k d) made
    ∙ get_or-map-range_with_len (λ k. period_of inst board (k + 1)) 0 n k k d low (omega arith) in
    let small = most (k + 1) (omega arith) (omega (arith, low, few)) in
    subst (λ (p : PeriodState). length p.sums ≤ size) (sym at)
    (omega (arith, small, length-scenario_sums inst board (k + 1)))

-- ---- steps

fold_max-least : (xs : List ℕ) (a : ℕ) → a ≤ fold max a xs
fold_max-least [] a = omega arith
fold_max-least (x ∷ xs) a = let r = fold_max-least xs (max a x) in omega (arith, r, le-max_left a x)

fold_max-each : (xs : List ℕ) (a k : ℕ) → k < length xs → get_or xs k 0 ≤ fold max a xs
fold_max-each [] a k h = absurd (omega (arith, h))
fold_max-each (x ∷ xs) a zero h = let r = fold_max-least xs (max a x) in omega (arith, r, le-max_right a x)
fold_max-each (x ∷ xs) a (suc k) h = fold_max-each xs (max a x) k (omega (arith, h))

pub scenarios_of-most : (inst : Tables) (t : ℕ) → IsFitting inst → 1 ≤ t → t ≤ inst.periods
    → scenarios_of inst t ≤ most_scenarios inst
unfolding scenarios_of most_scenarios
scenarios_of-most inst t fit from to =
    fold_max-each inst.scenarios 0 (t - 1) (omega (arith, fit.scenarios_each, from, to))

pub cost_none : (most : Option (ℕ → ℕ)) (a d m : ℕ) → IfSome most (λ b. a ≤ a + d * period_bound b m)
cost_none None a d m = tt
cost_none (Some b) a d m = omega arith

-- one period more
pub cost_run : (most : Option (ℕ → ℕ)) (a s t d n m : ℕ) → n ≤ m → IfSome most Grows
    → IfSome most (λ b. s ≤ a + d * period_bound b m) → IfSome most (λ b. t ≤ s + period_bound b n)
    → IfSome most (λ b. t ≤ a + (d + 1) * period_bound b m)
cost_run None a s t d n m h g k l = tt
cost_run (Some b) a s t d n m h g k l =
    let e = g n m h in
    let p = mul-le n (b n + 1) m (b m + 1) h (omega (arith, e)) in
    step (period_bound b m) (period_bound b n) k l (omega (arith, p))
  where
    step : (x y : ℕ) → s ≤ a + d * x → t ≤ s + y → y ≤ x → t ≤ a + (d + 1) * x
    step x y h k l = omega (arith, h, k, l)
