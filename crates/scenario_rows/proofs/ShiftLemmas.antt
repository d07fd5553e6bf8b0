-- Sums of a period that change by runs, one after another.
use Rattle.std.proofs.Common.{◌≡◌, ℕ, zero, suc, ◌+◌, ◌<◌, ◌≤◌, refl, sym, ◌∙◌, ap, subst, arith, ℤ}
use Rattle.std.proofs.Common.{List, [], ◌∷◌, Option, length, get_or, drop, All, true, false}
use Rattle.std.proofs.Common.{Bool, cond}
use Rattle.std.proofs.lemmas.List.{length-set, drop_more}
use Rattle.fixed_num.specs.Sums.{list_of}
use Rattle.instance_model.specs.Fitting.{IsFitting}
use Rattle.instance_model.specs.Tables.{Tables, scenarios_of, in_run, risk_of}
use Rattle.instance_model.specs.Plans.{scenario_sums}
use Rattle.instance_model.proofs.PlanLemmas.{length-scenario_sums}
use Rattle.scenario_rows.specs.declared.change.RunChange.{RunChange}
use Rattle.scenario_rows.specs.Changes.{changed_by, changed_sums}
use Rattle.scenario_rows.specs.Parts.{AreRowSums}
use Rattle.scenario_rows.specs.RunChanges.{start_after, after_run, board_after, IsKnownRun, CanChangeRun, CanChangeRuns}
use Rattle.scenario_rows.specs.Shifts.{IsIdle, shifted, shifted_by, StayRowSums, CanShift}
use Rattle.scenario_rows.proofs.RowLemmas.{length-changed_sums, changed_by-risks}
use Rattle.scenario_rows.proofs.BoardLemmas.{AreRowSums-scenario_sums, scenario_sums-changed, scenario_sums-idle}

-- ---- one run

pub shifted-running : (inst : Tables) (t : ℕ) (run : RunChange) (xs : List ℤ) → in_run inst run.i run.s t ≡ true
    → shifted inst t run xs ≡ changed_sums inst run.change run.i run.s t xs
unfolding shifted
shifted-running inst t run xs r = rw r refl

pub shifted-idle : (inst : Tables) (t : ℕ) (run : RunChange) (xs : List ℤ) → IsIdle inst t run
    → shifted inst t run xs ≡ xs
unfolding shifted
shifted-idle inst t run xs r = rw r refl

pub length-shifted : (inst : Tables) (t : ℕ) (run : RunChange) (xs : List ℤ)
    → length (shifted inst t run xs) ≡ length xs
unfolding shifted
length-shifted inst t run xs = at (in_run inst run.i run.s t)
  where
    at : (b : Bool) → length (cond b (changed_sums inst run.change run.i run.s t xs) xs) ≡ length xs
    at true = length-changed_sums inst run.change run.i run.s t xs
    at false = refl

-- ---- some runs

pub All-tail : {X : Type 0} (P : X → Type 0) (x : X) (xs : List X) → All P (x ∷ xs) → All P xs
All-tail P x xs h = λ k d l. h (suc k) d (omega (arith, l))

pub length-shifted_by : (inst : Tables) (t : ℕ) (runs : List RunChange) (xs : List ℤ)
    → length (shifted_by inst t runs xs) ≡ length xs
length-shifted_by inst t [] xs = refl
length-shifted_by inst t (run ∷ runs) xs =
    length-shifted_by inst t runs (shifted inst t run xs) ∙ length-shifted inst t run xs

pub shifted_by-idle : (inst : Tables) (t : ℕ) (runs : List RunChange) (xs : List ℤ) → All (IsIdle inst t) runs
    → shifted_by inst t runs xs ≡ xs
shifted_by-idle inst t [] xs idle = refl
shifted_by-idle inst t (run ∷ runs) xs idle =
    let here : shifted inst t run xs ≡ xs = shifted-idle inst t run xs (idle zero run (omega arith)) in
    ap (shifted_by inst t runs) here ∙ shifted_by-idle inst t runs xs (All-tail (IsIdle inst t) run runs idle)

pub shifted_by-row : (inst : Tables) (t : ℕ) (runs : List RunChange) (xs : List ℤ) → AreRowSums xs
    → StayRowSums inst t runs xs → AreRowSums (shifted_by inst t runs xs)
shifted_by-row inst t [] xs row stay = row
shifted_by-row inst t (run ∷ runs) xs row stay = shifted_by-row inst t runs (shifted inst t run xs) stay.0 stay.1

-- the first run, and then the others
pub CanShift-first : (inst : Tables) (t : ℕ) (run : RunChange) (runs : List RunChange) (xs : List ℤ)
    → CanShift inst t (run ∷ runs) xs → CanShift inst t (run ∷ []) xs
CanShift-first inst t run runs xs h =
    record {
      known = λ k d l. first run k d (omega (arith, l)) (h.known zero run (omega arith));
      from = h.from;
      to = h.to;
      each = h.each;
      row = h.row;
      stay = (h.stay.0, tt);
    }
  where
    first : (r : RunChange) (k : ℕ) (d : RunChange) → k ≡ 0 → IsKnownRun inst r → IsKnownRun inst (get_or (r ∷ []) k d)
    first r zero d e p = p
    first r (suc k) d e p = absurd (omega (arith, e))

pub CanShift-rest : (inst : Tables) (t : ℕ) (run : RunChange) (runs : List RunChange) (xs : List ℤ)
    → CanShift inst t (run ∷ runs) xs → CanShift inst t runs (shifted inst t run xs)
CanShift-rest inst t run runs xs h =
    record {
      known = All-tail (IsKnownRun inst) run runs h.known;
      from = h.from;
      to = h.to;
      each = length-shifted inst t run xs ∙ h.each;
      row = h.stay.0;
      stay = h.stay.1;
    }

-- what is left of the runs begins with the next
pub CanShift-next : (inst : Tables) (t : ℕ) (runs : List RunChange) (k : ℕ) (d : RunChange) (xs : List ℤ)
    → k < length runs → CanShift inst t (drop k runs) xs
    → CanShift inst t (get_or runs k d ∷ drop (k + 1) runs) xs
CanShift-next inst t runs k d xs l h = subst (λ (rs : List RunChange). CanShift inst t rs xs) (drop_more runs k d l) h

-- the sums of a run in progress, by its risks
pub shifted-by_risks : (inst : Tables) (t : ℕ) (run : RunChange) (risks xs : List ℤ)
    → in_run inst run.i run.s t ≡ true
    → risks ≡ list_of (scenarios_of inst t) (λ k. risk_of inst run.i run.s t (k + 1))
    → length xs ≡ scenarios_of inst t → changed_by run.change risks xs ≡ shifted inst t run xs
shifted-by_risks inst t run risks xs r e each =
    changed_by-risks inst run.change run.i run.s t risks xs e each ∙ sym (shifted-running inst t run xs r)

-- ---- the scenario sums of a board on which runs change

shifted-board : (inst : Tables) (board : List (Option ℕ)) (t : ℕ) (run : RunChange) → length board ≡ length inst.names
    → CanChangeRun inst board run
    → shifted inst t run (scenario_sums inst board t) ≡ scenario_sums inst (after_run run board) t
shifted-board inst board t run each can = at (in_run inst run.i run.s t) refl
  where
    at : (b : Bool) → in_run inst run.i run.s t ≡ b
        → shifted inst t run (scenario_sums inst board t) ≡ scenario_sums inst (after_run run board) t
    at true e = shifted-running inst t run (scenario_sums inst board t) e
        ∙ sym (scenario_sums-changed run.change inst board run.i run.s t each can.known.number can.before e)
    at false e = shifted-idle inst t run (scenario_sums inst board t) e
        ∙ sym (scenario_sums-idle run.change inst board run.i run.s t each can.known.number can.before e)

length-after_run : (board : List (Option ℕ)) (run : RunChange) → length (after_run run board) ≡ length board
length-after_run board run = length-set board run.i (start_after run.change run.s)

pub shifted_by-board : (inst : Tables) (board : List (Option ℕ)) (t : ℕ) (runs : List RunChange)
    → length board ≡ length inst.names → CanChangeRuns inst board runs
    → shifted_by inst t runs (scenario_sums inst board t) ≡ scenario_sums inst (board_after runs board) t
shifted_by-board inst board t [] each can = refl
shifted_by-board inst board t (run ∷ runs) each can =
    ap (shifted_by inst t runs) (shifted-board inst board t run each can.0)
    ∙ shifted_by-board inst (after_run run board) t runs (length-after_run board run ∙ each) can.1

stay-board : (inst : Tables) (board : List (Option ℕ)) (t : ℕ) (runs : List RunChange) → IsFitting inst → 1 ≤ t
    → t ≤ inst.periods → length board ≡ length inst.names → CanChangeRuns inst board runs
    → StayRowSums inst t runs (scenario_sums inst board t)
stay-board inst board t [] fit from to each can = tt
stay-board inst board t (run ∷ runs) fit from to each can =
    let e = shifted-board inst board t run each can.0 in
    let next = after_run run board in (
      subst AreRowSums (sym e) (AreRowSums-scenario_sums inst next t fit from to),
      subst (StayRowSums inst t runs) (sym e)
          (stay-board inst next t runs fit from to (length-after_run board run ∙ each) can.1),
    )

pub known-runs : (inst : Tables) (board : List (Option ℕ)) (runs : List RunChange) → CanChangeRuns inst board runs
    → All (IsKnownRun inst) runs
known-runs inst board [] can = λ k d l. absurd (omega (arith, l))
known-runs inst board (run ∷ runs) can =
    λ k d l. at k d l (known-runs inst (after_run run board) runs can.1)
  where
    at : (k : ℕ) (d : RunChange) → k < length (run ∷ runs) → All (IsKnownRun inst) runs
        → IsKnownRun inst (get_or (run ∷ runs) k d)
    at zero d l rest = can.0.known
    at (suc k) d l rest = rest k d (omega (arith, l))

pub CanShift-board : (inst : Tables) (board : List (Option ℕ)) (t : ℕ) (runs : List RunChange) → IsFitting inst → 1 ≤ t
    → t ≤ inst.periods → length board ≡ length inst.names → CanChangeRuns inst board runs
    → CanShift inst t runs (scenario_sums inst board t)
CanShift-board inst board t runs fit from to each can =
    record {
      known = known-runs inst board runs can;
      from = from;
      to = to;
      each = length-scenario_sums inst board t;
      row = AreRowSums-scenario_sums inst board t fit from to;
      stay = stay-board inst board t runs fit from to each can;
    }
