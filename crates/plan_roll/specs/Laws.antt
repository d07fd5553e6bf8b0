-- What holds of every rolled instance: its tables fit, and its plans are the plans that go on with the one so far.
use Rattle.std.specs.Prelude.{◌≡◌, ℕ, List, Option, ◌↔◌}
use Rattle.instance_model.specs.Tables.{Tables}
use Rattle.instance_model.specs.Fitting.{IsFitting}
use Rattle.instance_model.specs.Plans.{load_sum, scenario_sums}
use Rattle.instance_model.specs.Rules.{KeepsRules}
use Rattle.instance_model.specs.Values.{score_of}
use Rattle.plan_roll.specs.Rolled.{rolled}
use Rattle.plan_roll.specs.Begun.{GoesOn}

-- the rolled tables are those of an instance
abbrev pub RolledTablesFit : Type 0
RolledTablesFit =
    (inst : Tables) (plan : List (Option ℕ)) (period : ℕ) → IsFitting inst → IsFitting (rolled inst plan period)

-- a plan has the same loads, the same scenario sums and the same score in two instances
pub record HasSameValues (one two : Tables) (plan : List (Option ℕ)) : Type 0 where
  pub loads : (c t : ℕ) → load_sum one plan c t ≡ load_sum two plan c t
  pub sums : (t : ℕ) → scenario_sums one plan t ≡ scenario_sums two plan t
  pub score : score_of one plan ≡ score_of two plan

-- a plan keeps the rules of the rolled instance exactly where it keeps those of the instance and goes on with the plan
-- so far, and then its values are the same
pub record RollsPlan (inst : Tables) (plan : List (Option ℕ)) (period : ℕ) (new : List (Option ℕ)) : Type 0 where
  pub feasible : KeepsRules (rolled inst plan period) new ↔ (KeepsRules inst new × GoesOn inst plan period new)
  pub values : KeepsRules (rolled inst plan period) new → HasSameValues (rolled inst plan period) inst new

-- for every plan of every instance
abbrev pub PlansRoll : Type 0
PlansRoll =
    (inst : Tables) (plan : List (Option ℕ)) (period : ℕ) → IsFitting inst
    → (new : List (Option ℕ)) → RollsPlan inst plan period new
