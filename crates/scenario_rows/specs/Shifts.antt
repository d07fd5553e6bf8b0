-- Periods that change by runs, one after another, and what that adds to the score. Cited by
-- private functions only: no part of any promise.
use Rattle.std.specs.Prelude.{◌≡◌, ℕ, ◌+◌, ◌-◌, ◌≤◌, ℤ, ◌-ℤ◌, ◌≤ℤ◌, false, List, [], ◌∷◌, length, All}
use Rattle.std.specs.Prelude.{if◌then◌else◌}
use Rattle.fixed_num.specs.Rank.{mth_smallest}
use Rattle.fixed_num.specs.Sums.{total, sum_below}
use Rattle.instance_model.specs.Tables.{Tables, scenarios_of, in_run}
use Rattle.instance_model.specs.Plans.{IsSmallSum}
use Rattle.scenario_rows.specs.declared.change.RunChange.{RunChange}
use Rattle.scenario_rows.specs.RiskStates.{PeriodState}
use Rattle.scenario_rows.specs.RunChanges.{IsKnownRun}
use Rattle.scenario_rows.specs.Parts.{AreRowSums, part_of, period_at}
use Rattle.scenario_rows.specs.Changes.{changed_sums}

-- a run is not in progress in period t
abbrev pub IsIdle : Tables → ℕ → RunChange → Type 0
IsIdle inst t run = in_run inst run.i run.s t ≡ false

-- the sums of period t after the change by a run, and after the changes by some
unfoldable pub shifted : Tables → ℕ → RunChange → List ℤ → List ℤ
shifted inst t run sums = if in_run inst run.i run.s t then changed_sums inst run.change run.i run.s t sums else sums

abbrev pub shifted_by : Tables → ℕ → List RunChange → List ℤ → List ℤ
shifted_by inst t [] sums = sums
shifted_by inst t (run ∷ runs) sums = shifted_by inst t runs (shifted inst t run sums)

-- each of these changes leads to sums of a row
abbrev pub StayRowSums : Tables → ℕ → List RunChange → List ℤ → Type 0
StayRowSums inst t [] sums = Unit {0}
StayRowSums inst t (run ∷ runs) sums =
    AreRowSums (shifted inst t run sums) × StayRowSums inst t runs (shifted inst t run sums)

-- these are sums of period t, which these runs can change
pub record CanShift (inst : Tables) (t : ℕ) (runs : List RunChange) (sums : List ℤ) : Type 0 where
  pub known : All (IsKnownRun inst) runs
  pub from : 1 ≤ t
  pub to : t ≤ inst.periods
  pub each : length sums ≡ scenarios_of inst t
  pub row : AreRowSums sums
  pub stay : StayRowSums inst t runs sums

-- the total of some sums, and at most their quantile
pub record AreBoundsOf (rank : ℕ) (sums : List ℤ) (s q : ℤ) : Type 0 where
  pub total : s ≡ total sums
  pub quantile : q ≤ℤ mth_smallest rank sums
  pub small : IsSmallSum q

-- a period after the changes
abbrev pub shifted_period : Tables → ℕ → List RunChange → PeriodState → PeriodState
shifted_period inst t runs p = record p { sums = shifted_by inst t runs p.sums }

-- what the changes add to the score by period t, and by all periods from t on
abbrev pub rise_at : Tables → List RunChange → List PeriodState → ℕ → ℤ
rise_at inst runs periods t =
    part_of (shifted_period inst t runs (period_at periods t)) -ℤ part_of (period_at periods t)

unfoldable pub rise_from : Tables → List RunChange → List PeriodState → ℕ → ℤ
rise_from inst runs periods t =
    sum_below inst.periods (λ u. rise_at inst runs periods (u + 1))
    -ℤ sum_below (t - 1) (λ u. rise_at inst runs periods (u + 1))

-- each period can change by these runs, and there is room for its sums
pub record CanJudge (inst : Tables) (runs : List RunChange) (periods : List PeriodState) (size : ℕ) : Type 0 where
  pub each : length periods ≡ inst.periods
  pub few : inst.periods ≤ 512
  pub known : All (IsKnownRun inst) runs
  pub can : (t : ℕ) → 1 ≤ t → t ≤ inst.periods → CanShift inst t runs (period_at periods t).sums
  pub room : All (λ p. length p.sums ≤ size) periods
