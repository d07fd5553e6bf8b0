-- What rows of scenario sums stand for.
use Rattle.std.specs.Prelude.{◌≡◌, ℕ, ◌+◌, ℤ, List, length, map, Option}
use Rattle.std.specs.List.{range_with_len}
use Rattle.instance_model.specs.Tables.{Tables, rank_of}
use Rattle.instance_model.specs.Plans.{RunsAreAllowed, scenario_sums}

-- the scenario sums of a period, with what weighs them: alpha in millionths, and the rank of the quantile
pub record PeriodState : Type 0 where
  pub alpha : ℕ
  pub rank : ℕ
  pub sums : List ℤ

-- the start of each intervention that is on board, and the periods from the first on
pub record RiskState : Type 0 where
  pub board : List (Option ℕ)
  pub periods : List PeriodState

-- period t of an instance with these runs on board
abbrev pub period_of : Tables → List (Option ℕ) → ℕ → PeriodState
period_of inst board t = record { alpha = inst.alpha; rank = rank_of inst t; sums = scenario_sums inst board t }

-- the rows were made over this instance: the runs on board are allowed, and each period has their scenario sums
pub record IsOver (inst : Tables) (v : RiskState) : Type 0 where
  pub each : length v.board ≡ length inst.names
  pub allowed : RunsAreAllowed inst v.board
  pub periods : v.periods ≡ map (λ u. period_of inst v.board (u + 1)) (range_with_len 0 inst.periods)
