-- What a kept plan stands for. A plan is the list of its starts, by intervention.
use Rattle.std.specs.Prelude.{ℕ, ◌+◌, ◌-◌, ◌<◌, List, [], ◌∷◌, ◌++◌, length, take, map, Some, All, slice_index_or}
use Rattle.instance_model.specs.Tables.{Tables, delta_of}
use Rattle.instance_model.specs.Plans.{AreAllowedStarts}
use Rattle.instance_model.specs.Keys.{key_of}
use Rattle.instance_model.specs.declared.key.Key.{Key}
use Rattle.scenario_rows.specs.Bounds.{run_bound}

-- the instance, the plans in the order in which they were made, and how many more fit without memory
pub record KeptPlans : Type 0 where
  pub instance : Tables
  pub plans : List (List ℕ)
  pub spare : ℕ

-- the present plan: the last one
abbrev pub present : List (List ℕ) → List ℕ
present plans = slice_index_or plans (length plans - 1) []

-- the key of the present plan, from scratch
abbrev pub present_key : Tables → List (List ℕ) → Key
present_key inst plans = key_of inst (map Some (present plans))

-- a plan is made from the present one, and becomes it
abbrev pub with_plan : List ℕ → KeptPlans → KeptPlans
with_plan plan kept = record kept { plans = kept.plans ++ plan ∷ []; spare = kept.spare - 1 }

-- the plans but the last
abbrev pub without_last : List (List ℕ) → List (List ℕ)
without_last plans = take (length plans - 1) plans

-- the present plan is taken off
abbrev pub without_present : KeptPlans → KeptPlans
without_present kept = record kept { plans = without_last kept.plans; spare = kept.spare + 1 }

-- there is a plan, and each has one allowed start for each intervention
pub record AreKeptPlans (kept : KeptPlans) : Type 0 where
  pub some : 0 < length kept.plans
  pub allowed : All (AreAllowedStarts kept.instance) kept.plans

-- the most steps of a change of one start, where one change in a row of n scenarios takes at most `most n`: those of
-- the run that is taken off, and of the one that is put on board
abbrev pub move_bound : Tables → (ℕ → ℕ) → (i old new : ℕ) → ℕ
move_bound inst most i old new = run_bound inst most (delta_of inst i old + delta_of inst i new)
