-- The plan that a search is given.
use Rattle.std.specs.Prelude.{◌≡◌, ℕ, List, map, Option, Some, None}
use Rattle.instance_model.specs.Tables.{Tables}
use Rattle.instance_model.specs.Rules.{IsFeasible}

-- the plan that a search is given: the end of a descent, where it is feasible
abbrev pub IsGiven : Tables → List ℕ → Option (List ℕ) → Type 0
IsGiven inst end None = IsFeasible inst (map Some end) → ⊥
IsGiven inst end (Some plan) = (plan ≡ end) × IsFeasible inst (map Some end)
