-- What a descent comes to.
use Rattle.std.specs.Prelude.{◌≡◌, ◌⊎◌, ℕ, ◌≤◌, List, ◌∷◌, length, map, IsTrue, ◌↔◌, Some}
use Rattle.instance_model.specs.Tables.{Tables}
use Rattle.instance_model.specs.Plans.{AreAllowedStarts}
use Rattle.instance_model.specs.Rules.{IsFeasible}
use Rattle.instance_model.specs.Keys.{IsOpening}
use Rattle.plan_moves.specs.declared.change.Change.{Change}
use Rattle.plan_moves.specs.KeptPlans.{present}
use Rattle.local_search.specs.Descents.{AllLower, plans_after, IsLocalOptimum}
use Rattle.local_search.specs.declared.ending.Descended.{Descended}

-- the plan at which changes end that are made in order from a plan
abbrev pub end_of : List ℕ → List Change → List ℕ
end_of opening changes = present (opening ∷ plans_after opening changes)

-- a descent from a plan: each change leads to a neighbour of strictly lower key, and there are as many as turns, or no
-- neighbour of the last plan has a lower key
pub record IsDescentFrom (inst : Tables) (turns : ℕ) (opening : List ℕ) (changes : List Change) : Type 0 where
  pub lower : AllLower inst opening changes
  pub few : length changes ≤ turns
  pub stops : (length changes ≡ turns) ⊎ IsLocalOptimum inst (end_of opening changes)

-- a descent from the opening plan
pub record IsTrail (inst : Tables) (turns : ℕ) (opening : List ℕ) (changes : List Change) : Type 0 where
  pub opens : IsOpening inst opening
  pub descent : IsDescentFrom inst turns opening changes

-- what a descent from a plan came to: its changes, its end, and whether that is feasible
pub record IsDescended (inst : Tables) (turns : ℕ) (opening : List ℕ) (descended : Descended) : Type 0 where
  pub descent : IsDescentFrom inst turns opening descended.moves
  pub end : descended.starts ≡ end_of opening descended.moves
  pub allowed : AreAllowedStarts inst descended.starts
  pub feasible : IsTrue descended.feasible ↔ IsFeasible inst (map Some descended.starts)
