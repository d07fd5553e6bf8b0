-- The plan that a search for few changes is given.
use Rattle.std.specs.Prelude.{ℕ, ◌≤◌, List, map, Option, Some, None}
use Rattle.instance_model.specs.Tables.{Tables}
use Rattle.instance_model.specs.Rules.{IsFeasible}
use Rattle.plan_moves.specs.declared.change.Change.{Change}
use Rattle.branch_search.specs.Best.{IsFeasiblePlan}
use Rattle.plan_changes.specs.Changes.{changes_of}
use Rattle.plan_changes.specs.Returning.{AreFromEither, NoneCanGoBack}
use Rattle.local_search.specs.Ends.{end_of, IsDescentFrom}

-- a feasible plan that came of another one by starts that went back to old ones until no change could go back alone
pub record IsBackFrom (inst : Tables) (old : List (Option ℕ)) (starts new : List ℕ) : Type 0 where
  pub plan : IsFeasiblePlan inst new
  pub either : AreFromEither old starts new
  pub few : changes_of old new ≤ changes_of old starts
  pub none_left : NoneCanGoBack inst old new

-- It is the opening, where that is feasible; else what the end of a descent from it gives back, where that end is
-- feasible; else there is none.
pub data IsIncumbent (inst : Tables) (old : List (Option ℕ)) (turns : ℕ) (opening : List ℕ)
    : Option (List ℕ) → Type 0 where
  opens : IsFeasible inst (map Some opening) → IsIncumbent inst old turns opening (Some opening)
  descends : (changes : List Change) (plan : List ℕ) → ¬ IsFeasible inst (map Some opening)
      → IsDescentFrom inst turns opening changes → IsFeasible inst (map Some (end_of opening changes))
      → IsBackFrom inst old (end_of opening changes) plan → IsIncumbent inst old turns opening (Some plan)
  nothing : (changes : List Change) → ¬ IsFeasible inst (map Some opening) → IsDescentFrom inst turns opening changes
      → ¬ IsFeasible inst (map Some (end_of opening changes)) → IsIncumbent inst old turns opening None
