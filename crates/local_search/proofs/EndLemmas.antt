-- What a descent from a plan came to.
use Rattle.std.proofs.Common.{◌≡◌, ◌⊎◌, inl, inr, ℕ, ◌-◌, refl, sym, ◌∙◌, ap, subst, arith, List, [], ◌∷◌, length}
use Rattle.std.proofs.Common.{Some, Bool, true, false, IsTrue, ◌↔◌, pos, map, ℤ}
use Rattle.std.specs.Bool.{OnFalse}
use Rattle.instance_model.specs.Tables.{Tables}
use Rattle.instance_model.specs.Plans.{AreAllowedStarts}
use Rattle.instance_model.specs.Rules.{IsFeasible}
use Rattle.instance_model.specs.Keys.{IsOpening, NoViolationMeansFeasible, violation_of}
use Rattle.plan_moves.specs.declared.change.Change.{Change}
use Rattle.plan_moves.specs.KeptPlans.{KeptPlans, AreKeptPlans, present, present_key}
use Rattle.local_search.specs.Descents.{IsDescent, IsLocalOptimum}
use Rattle.local_search.specs.Ends.{end_of, IsDescentFrom, IsTrail}

-- ---- a descent

-- what is kept of the opening plan alone
abbrev pub opened : Tables → List ℕ → KeptPlans
opened inst opening = record { instance = inst; plans = opening ∷ []; spare = 0 }

module _ (inst : Tables) (opening : List ℕ) (old new : KeptPlans) (turns : ℕ) (changes : List Change) (spent : Bool)
    (first : old ≡ opened inst opening) (descent : IsDescent old new turns changes spent) where
  from_opening : IsDescent (opened inst opening) new turns changes spent
  from_opening = subst (λ (kept : KeptPlans). IsDescent kept new turns changes spent) first descent

  pub end_is : present new.plans ≡ end_of opening changes
  end_is = ap present from_opening.plans

  pub instance_is : new.instance ≡ inst
  instance_is = from_opening.instance_same

  pub is_descent : IsDescentFrom inst turns opening changes
  is_descent = record {
    lower = from_opening.lower;
    few = from_opening.few;
    stops = at spent from_opening.all_spent from_opening.optimum;
  }
    where
      at : (b : Bool) → IsTrue b ↔ (length changes ≡ turns) → OnFalse b (IsLocalOptimum inst (present new.plans))
          → (length changes ≡ turns) ⊎ IsLocalOptimum inst (end_of opening changes)
      at true all optimum = inl (all.0 refl)
      at false all optimum = inr (subst (IsLocalOptimum inst) end_is optimum)

  pub is_trail : IsOpening inst opening → IsTrail inst turns opening changes
  is_trail opens = record { opens = opens; descent = is_descent }

-- ---- the present plan

module _ (inst : Tables) (kept : KeptPlans) (same : kept.instance ≡ inst) (are : AreKeptPlans kept) where
  pub present_allowed : AreAllowedStarts inst (present kept.plans)
  present_allowed =
      subst (λ (i : Tables). AreAllowedStarts i (present kept.plans)) same
      (are.allowed (length kept.plans - 1) [] (omega (arith, are.some)))

  -- it has no violation exactly where it is feasible
  pub present_feasible : NoViolationMeansFeasible inst → (violation : ℤ)
      → violation ≡ (present_key kept.instance kept.plans).violation
      → (violation ≡ pos 0) ↔ IsFeasible inst (map Some (present kept.plans))
  present_feasible law violation is =
      let here = law (present kept.plans) present_allowed in
      let value : violation ≡ violation_of inst (map Some (present kept.plans)) =
      is ∙ ap (λ (i : Tables). violation_of i (map Some (present kept.plans))) same in
      (λ none. here.0 (sym value ∙ none), λ feasible. value ∙ here.1 feasible)
