-- What was kept of a descent, and what is left of it after all its changes were undone.
use Rattle.std.proofs.Common.{◌≡◌, ℕ, ◌+◌, refl, ◌∙◌, ap, subst, arith, List, [], ◌∷◌, length, take}
use Rattle.std.proofs.Common.{Bool}
use Rattle.instance_model.specs.declared.key.Key.{Key}
use Rattle.instance_model.specs.Tables.{Tables}
use Rattle.plan_moves.specs.declared.change.Change.{Change}
use Rattle.plan_moves.specs.Changing.{after_change}
use Rattle.plan_moves.specs.KeptPlans.{KeptPlans, present, present_key}
use Rattle.local_search.specs.Descents.{plan_key, plans_after, IsDescent}
use Rattle.local_search.proofs.EndLemmas.{opened}

-- a descent has one plan more with each change
plans_count : (plan : List ℕ) (changes : List Change) → length (plans_after plan changes) ≡ length changes
plans_count plan [] = refl
plans_count plan (change ∷ changes) =
    let rest = plans_count (after_change change plan) changes in
    omega (arith, rest)

-- the key of the present plan where that is this one
pub key_is : (inst : Tables) (kept : KeptPlans) (plan : List ℕ) (key : Key) → kept.instance ≡ inst
    → present kept.plans ≡ plan → key ≡ present_key kept.instance kept.plans → key ≡ plan_key inst plan
key_is inst kept plan key same is value =
    value
    ∙ ap (λ (i : Tables). plan_key i (present kept.plans)) same
    ∙ ap (plan_key inst) is

module _ (inst : Tables) (opening : List ℕ) (old new : KeptPlans) (turns : ℕ) (changes : List Change) (spent : Bool)
    (first : old ≡ opened inst opening) (descent : IsDescent old new turns changes spent) where
  from_opening : IsDescent (opened inst opening) new turns changes spent
  from_opening = subst (λ (kept : KeptPlans). IsDescent kept new turns changes spent) first descent

  all_plans : new.plans ≡ opening ∷ plans_after opening changes
  all_plans = from_opening.plans

  pub all_count : length new.plans ≡ length changes + 1
  all_count =
      let count : length new.plans ≡ length (opening ∷ plans_after opening changes) =
      ap (λ (ps : List (List ℕ)). length ps) all_plans in
      let rest = plans_count opening changes in
      omega (arith, count, rest)

  -- the first plan is the opening plan
  pub first_left : (left : List (List ℕ)) → left ≡ take 1 new.plans → present left ≡ opening
  first_left left is = ap present (is ∙ ap (λ (ps : List (List ℕ)). take 1 ps) all_plans)
