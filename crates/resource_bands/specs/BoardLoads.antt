-- Runs on board, and what is kept of their loads. Loads and limits are counts of 10^-12.
use Rattle.std.specs.Prelude.{◌≡◌, ℕ, ◌-◌, ◌<◌, ◌≤◌, ℤ, pos, List, [], length, Option, slice_index_or}
use Rattle.instance_model.specs.Tables.{Tables}
use Rattle.instance_model.specs.Plans.{RunsAreAllowed, load_sum}
use Rattle.instance_model.specs.Keys.{band_gaps}

-- the starts of the runs on board, by intervention; their loads, by resource, then period;
-- and how far these are outside their limits
pub record BoardLoads : Type 0 where
  pub board : List (Option ℕ)
  pub loads : List (List ℤ)
  pub violation : ℤ

-- the loads that are kept of resource c, by period
abbrev pub kept_row : BoardLoads → ℕ → List ℤ
kept_row v c = slice_index_or v.loads c []

-- the load that is kept of resource c in period t
abbrev pub kept_load : BoardLoads → ℕ → ℕ → ℤ
kept_load v c t = slice_index_or (kept_row v c) (t - 1) (pos 0)

-- the runs are runs of this instance, and what is kept of them is what they add up to there
pub record IsOver (inst : Tables) (v : BoardLoads) : Type 0 where
  pub each : length v.board ≡ length inst.names
  pub allowed : RunsAreAllowed inst v.board
  pub resources : length v.loads ≡ length inst.resource_names
  pub periods : (c : ℕ) → c < length inst.resource_names → length (kept_row v c) ≡ inst.periods
  pub loads : (c t : ℕ) → c < length inst.resource_names → 1 ≤ t → t ≤ inst.periods
      → kept_load v c t ≡ load_sum inst v.board c t
  pub violation : v.violation ≡ band_gaps inst v.board
