-- Sums to which the risks of a run are added, or from which they are taken. Cited by
-- private functions only: no part of any promise.
use Rattle.std.specs.Prelude.{◌≡◌, ℕ, ◌+◌, ◌<◌, ◌≤◌, ℤ, pos, ◌+ℤ◌, ◌-ℤ◌, List, length, IsTrue, Option}
use Rattle.std.specs.Prelude.{slice_index_or}
use Rattle.fixed_num.specs.Sums.{list_of}
use Rattle.instance_model.specs.Tables.{Tables, scenarios_of, is_allowed, in_run, risk_of}
use Rattle.scenario_rows.specs.RiskStates.{PeriodState, period_of}
use Rattle.scenario_rows.specs.Parts.{AreRowSums, period_at}
use Rattle.scenario_rows.specs.declared.change.Change.{Change}
use Rattle.scenario_rows.specs.declared.change.Change.TheVariants.{Add, Take}

-- a sum after the change by one risk
abbrev pub changed : Change → ℤ → ℤ → ℤ
changed Add sum risk = sum +ℤ risk
changed Take sum risk = sum -ℤ risk

-- sums after the change, each by the risk of its scenario
unfoldable pub changed_by : Change → List ℤ → List ℤ → List ℤ
changed_by change risks sums =
    list_of (length sums) (λ k. changed change (slice_index_or sums k (pos 0)) (slice_index_or risks k (pos 0)))

-- the sums of period t after the change by the risks of intervention i at start s
unfoldable pub changed_sums : Tables → Change → ℕ → ℕ → ℕ → List ℤ → List ℤ
changed_sums inst change i s t sums =
    list_of (length sums) (λ k. changed change (slice_index_or sums k (pos 0)) (risk_of inst i s t (k + 1)))

-- period t after that change
abbrev pub changed_period : Tables → Change → ℕ → ℕ → ℕ → PeriodState → PeriodState
changed_period inst change i s t p = record p { sums = changed_sums inst change i s t p.sums }

-- these are sums of period t, which is in the run of intervention i at start s, and stay in range
pub record CanChange (inst : Tables) (change : Change) (i s t : ℕ) (sums : List ℤ) : Type 0 where
  pub number : i < length inst.names
  pub allowed : IsTrue (is_allowed inst i s)
  pub running : IsTrue (in_run inst i s t)
  pub from : 1 ≤ t
  pub to : t ≤ inst.periods
  pub each : length sums ≡ scenarios_of inst t
  pub row : AreRowSums (changed_sums inst change i s t sums)

-- the periods below t are those of one board, the others those of another
pub record AreChangedBelow (inst : Tables) (old new : List (Option ℕ)) (t : ℕ)
    (periods : List PeriodState) : Type 0 where
  pub each : length periods ≡ inst.periods
  pub below : (u : ℕ) → 1 ≤ u → u < t → u ≤ inst.periods → period_at periods u ≡ period_of inst new u
  pub above : (u : ℕ) → 1 ≤ u → t ≤ u → u ≤ inst.periods → period_at periods u ≡ period_of inst old u
