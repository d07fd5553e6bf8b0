-- What a descent makes of a plan: changes in order, each to a neighbour of strictly
-- lower key. A plan is the list of its starts.
use Rattle.std.specs.Prelude.{◌≡◌, ℕ, ◌+◌, ◌≤◌, ⊤, List, [], ◌∷◌, ◌++◌, length, max, map, Some, Bool, IsTrue, ◌↔◌}
use Rattle.std.specs.Bool.{OnFalse}
use Rattle.instance_model.specs.declared.key.Key.{Key}
use Rattle.instance_model.specs.Tables.{Tables}
use Rattle.instance_model.specs.Keys.{key_of, KeyBelow, IsNeighbour}
use Rattle.plan_moves.specs.declared.change.Change.{Change}
use Rattle.plan_moves.specs.Changing.{CanChange, after_change}
use Rattle.plan_moves.specs.KeptPlans.{KeptPlans, present}

-- the key of a plan
abbrev pub plan_key : Tables → List ℕ → Key
plan_key inst plan = key_of inst (map Some plan)

-- a change can be made from a plan, and leads to a neighbour of strictly lower key
pub record Lowers (inst : Tables) (plan : List ℕ) (change : Change) : Type 0 where
  pub can : CanChange inst plan change
  pub neighbour : IsNeighbour inst plan (after_change change plan)
  pub lower : KeyBelow (plan_key inst (after_change change plan)) (plan_key inst plan)

-- each of these changes can be made, in order from a plan, and leads to a neighbour of strictly lower key
abbrev pub AllLower : Tables → List ℕ → List Change → Type 0
AllLower inst plan [] = ⊤
AllLower inst plan (change ∷ changes) = Lowers inst plan change × AllLower inst (after_change change plan) changes

-- the plans after each of these changes, made in order from a plan
abbrev pub plans_after : List ℕ → List Change → List (List ℕ)
plans_after plan [] = []
plans_after plan (change ∷ changes) = after_change change plan ∷ plans_after (after_change change plan) changes

-- no neighbour of a plan has a lower key
abbrev pub IsLocalOptimum : Tables → List ℕ → Type 0
IsLocalOptimum inst plan =
    (other : List ℕ) → IsNeighbour inst plan other → ¬ KeyBelow (plan_key inst other) (plan_key inst plan)

-- what a descent of at most this many turns makes of what is kept: its changes, and whether no turn is left
pub record IsDescent (old new : KeptPlans) (turns : ℕ) (changes : List Change) (spent : Bool) : Type 0 where
  pub lower : AllLower old.instance (present old.plans) changes
  pub few : length changes ≤ turns
  pub all_spent : IsTrue spent ↔ (length changes ≡ turns)
  pub optimum : OnFalse spent (IsLocalOptimum old.instance (present new.plans))
  pub instance_same : new.instance ≡ old.instance
  pub plans : new.plans ≡ old.plans ++ plans_after (present old.plans) changes
  pub spare : new.spare + length changes ≡ max old.spare turns
