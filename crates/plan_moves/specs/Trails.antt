-- The list of plans that a present plan and its trail stand for.
use Rattle.std.specs.Prelude.{ℕ, ◌<◌, List, [], ◌∷◌, ◌++◌, length, reverse, swap, slice_index, slice_set, All}
use Rattle.undo_trail.specs.declared.Step.{Step}
use Rattle.undo_trail.specs.declared.Step.TheVariants.{Move, Swap}
use Rattle.instance_model.specs.Tables.{Tables}
use Rattle.instance_model.specs.Plans.{AreAllowedStarts}
use Rattle.plan_moves.specs.declared.change.Change.{Change}
use Rattle.plan_moves.specs.declared.change.Change.TheVariants as change
use Rattle.plan_moves.specs.Boards.{Board}
use Rattle.plan_moves.specs.KeptPlans.{KeptPlans}

-- the plan before a step
abbrev pub undone : Step → List ℕ → List ℕ
undone (Move i from) plan = slice_set plan i from
undone (Swap i j) plan = swap plan i j

-- the step back from a change of a plan
abbrev pub step_back : Change → List ℕ → Step
step_back (change.Move i s) plan = Move i (slice_index plan i)
step_back (change.Swap i j) plan = Swap i j

-- the plans before, the steps being given from the last one back
abbrev pub plans_before : List Step → List ℕ → List (List ℕ)
plans_before [] plan = []
plans_before (step ∷ steps) plan = plans_before steps (undone step plan) ++ undone step plan ∷ []

-- the plans in the order in which they were made, the present one last
abbrev pub plans_of : List Step → List ℕ → List (List ℕ)
plans_of steps plan = plans_before (reverse steps) plan ++ plan ∷ []

-- a step names interventions below n
abbrev pub NamesBelow : ℕ → Step → Type 0
NamesBelow n (Move i from) = i < n
NamesBelow n (Swap i j) = (i < n) × (j < n)

-- each step names interventions of the instance, and each plan has allowed starts
pub record IsTrailOf (inst : Tables) (steps : List Step) (plan : List ℕ) : Type 0 where
  pub named : All (NamesBelow (length inst.names)) steps
  pub allowed : All (AreAllowedStarts inst) (plans_of steps plan)

-- what the present board stands for with its trail, which is steps and a spare
abbrev pub kept_of : Board → List Step × ℕ → KeptPlans
kept_of board trail = record { instance = board.instance; plans = plans_of trail.0 board.starts; spare = trail.1 }
