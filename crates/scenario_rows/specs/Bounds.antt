-- How many steps a change of the rows takes.
use Rattle.std.specs.Prelude.{ℕ, ◌+◌, ◌*◌, max, fold}
use Rattle.instance_model.specs.Tables.{Tables}

-- the greatest number of scenarios of a period
unfoldable pub most_scenarios : Tables → ℕ
most_scenarios inst = fold max 0 inst.scenarios

-- the most steps of one period with n scenarios: for each a risk and a change of the row,
-- which takes at most `most n`, and the quantile
abbrev pub period_bound : (ℕ → ℕ) → ℕ → ℕ
period_bound most n = n * (most n + 1) + 1

-- the most steps of a run of this duration
abbrev pub run_bound : Tables → (ℕ → ℕ) → ℕ → ℕ
run_bound inst most duration = duration * period_bound most (most_scenarios inst)
