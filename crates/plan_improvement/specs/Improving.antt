-- What an improvement comes to: a plan that keeps every rule, or the plan that came nearest to the rules, or an
-- intervention without an allowed start.
--
-- `old` are the starts of the plan that is to be improved: one or none for each intervention, which has none past the
-- end of the list. The first plan has these where they are allowed, and least allowed starts elsewhere.
use Rattle.std.specs.Prelude.{◌≡◌, ℕ, ◌<◌, ◌^◌, ℤ, ◌≤ℤ◌, List, ◌∷◌, length, map, All, Option, Some, min, max, nat_eq}
use Rattle.std.specs.Prelude.{unsigned_abs, if◌then◌else◌}
use Rattle.instance_model.specs.Tables.{Tables}
use Rattle.instance_model.specs.Rules.{IsFeasible}
use Rattle.instance_model.specs.Values.{score_of}
use Rattle.instance_model.specs.Keys.{violation_of}
use Rattle.instance_model.specs.Exact.{IsReading, EnclosesReading}
use Rattle.plan_score.specs.Values.{values_of}
use Rattle.plan_score.specs.declared.values.Values.{Values}
use Rattle.plan_moves.specs.declared.change.Change.{Change}
use Rattle.branch_search.specs.Best.{IsFeasiblePlan}
use Rattle.local_search.specs.Descents.{plans_after}
use Rattle.local_search.specs.Openings.{IsWithoutStart}
use Rattle.local_search.specs.Ends.{end_of, IsDescentFrom}
use Rattle.fewest_changes.specs.Openings.{IsKeptOpening}
use Rattle.plan_improvement.specs.declared.improving.Improvement.{Improvement}
use Rattle.plan_improvement.specs.declared.improving.Improvement.TheVariants.{Found, Nothing, Without}

-- ---- a plan that keeps every rule

-- The plan keeps every rule, and these are its values from scratch. They enclose those of every choice of numbers that
-- rounds to the numbers of the instance.
pub record IsJudged (inst : Tables) (plan : List ℕ) (values : Values) : Type 0 where
  pub is_plan : IsFeasiblePlan inst plan
  pub values_are : values ≡ values_of inst (map Some plan)
  pub small : unsigned_abs values.score < 10 ^ 33
  pub encloses : (f : ℕ) (numbers : List ℤ) → IsReading inst f numbers
      → EnclosesReading inst (map Some plan) f numbers

-- The plan is the end of a descent from one that keeps every rule: each change leads to a neighbour of strictly lower
-- key, and no neighbour of the plan has a lower one, unless there are 1,000 changes.
pub record IsSettled (inst : Tables) (plan : List ℕ) : Type 0 where
  pub from : List ℕ
  pub keeps : IsFeasiblePlan inst from
  pub changes : List Change
  pub descent : IsDescentFrom inst 1_000 from changes
  pub end : plan ≡ end_of from changes

-- ---- what is found

-- A plan that keeps every rule. Its score is at most that of the old plan, where that keeps every rule, and of the
-- first one, where that does. It is the end of a descent, or without turns the first plan.
pub record IsImproved (inst : Tables) (old : List (Option ℕ)) (turns : ℕ) (plan : List ℕ) (values : Values)
    : Type 0 where
  pub judged : IsJudged inst plan values
  pub no_worse : length old ≡ length inst.names → IsFeasible inst old
      → score_of inst (map Some plan) ≤ℤ score_of inst old
  pub first : List ℕ
  pub opens : IsKeptOpening inst old first
  pub no_worse_first : IsFeasible inst (map Some first)
      → score_of inst (map Some plan) ≤ℤ score_of inst (map Some first)
  pub settled : 0 < turns → IsSettled inst plan
  pub same : turns ≡ 0 → plan ≡ first

-- ---- where nothing is found

-- how many changes the descent has at most that looks for a plan which keeps every rule
abbrev pub looking_turns : ℕ → ℕ
looking_turns turns = if nat_eq turns 0 then 0 else min (max turns 2_000) 20_000

-- The old plan breaks a rule, the first one does, and so does the end of a descent from it. This is its violation, and
-- no plan of the descent has a smaller one.
pub record IsNothing (inst : Tables) (old : List (Option ℕ)) (turns : ℕ) (violation : ℤ) : Type 0 where
  pub broken : length old ≡ length inst.names → ¬ IsFeasible inst old
  pub first : List ℕ
  pub opens : IsKeptOpening inst old first
  pub broken_first : ¬ IsFeasible inst (map Some first)
  pub changes : List Change
  pub descent : IsDescentFrom inst (looking_turns turns) first changes
  pub broken_end : ¬ IsFeasible inst (map Some (end_of first changes))
  pub violation_is : violation ≡ violation_of inst (map Some (end_of first changes))
  pub least : All (λ plan. violation ≤ℤ violation_of inst (map Some plan)) (first ∷ plans_after first changes)

-- ---- what an improvement comes to

abbrev pub IsImprovement : Tables → (old : List (Option ℕ)) → (turns : ℕ) → Improvement → Type 0
IsImprovement inst old turns (Found plan) = IsImproved inst old turns plan.starts plan.values
IsImprovement inst old turns (Nothing violation) = IsNothing inst old turns violation
IsImprovement inst old turns (Without i) = IsWithoutStart inst i
