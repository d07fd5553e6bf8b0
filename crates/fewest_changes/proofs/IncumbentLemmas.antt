-- The plan that the search is given.
use Rattle.std.proofs.Common.{◌≡◌, ℕ, sym, ◌∙◌, ap, subst, List, length, Bool, true, false, IsTrue, map, Option}
use Rattle.std.proofs.Common.{Some, None}
use Rattle.std.specs.Prelude.{IfSome, is_some}
use Rattle.instance_model.specs.Tables.{Tables}
use Rattle.instance_model.specs.declared.rule.Rule.{Rule}
use Rattle.instance_model.specs.Rules.{first_rule, IsFeasible}
use Rattle.branch_search.specs.Best.{IsFeasiblePlan}
use Rattle.local_search.specs.declared.ending.Descended.{Descended}
use Rattle.local_search.specs.Ends.{IsDescended}
use Rattle.fewest_changes.specs.Incumbents.{IsBackFrom, IsIncumbent}
use Rattle.fewest_changes.specs.Incumbents.IsIncumbent.{opens, descends, nothing}

-- a test that failed
not_true : (b : Bool) → b ≡ false → IsTrue b → ⊥
not_true b is holds = apart (sym holds ∙ is)
  where
    apart : true ≡ false → ⊥
    apart h = cc

-- ---- the plan that the search is given

-- the opening, where no rule is broken
pub opens_given : (inst : Tables) (old : List (Option ℕ)) (turns : ℕ) (opening starts : List ℕ)
    (seen : List (Option ℕ)) (rule : Option Rule)
    → seen ≡ map Some opening → rule ≡ first_rule inst seen → is_some rule ≡ false → starts ≡ opening
    → IsIncumbent inst old turns opening (Some starts)
opens_given inst old turns opening starts seen rule same is none also =
    subst (λ (xs : List ℕ). IsIncumbent inst old turns opening (Some xs)) (sym also)
    (opens (subst (IsFeasible inst) same (sym (ap is_some is) ∙ none)))

-- where one is, it isn't feasible
pub not_opens : (inst : Tables) (opening : List ℕ) (seen : List (Option ℕ)) (rule : Option Rule)
    → seen ≡ map Some opening → rule ≡ first_rule inst seen → is_some rule ≡ true
    → IsFeasible inst (map Some opening) → ⊥
not_opens inst opening seen rule same is some feasible =
    apart (sym some ∙ ap is_some is ∙ subst (IsFeasible inst) (sym same) feasible)
  where
    apart : true ≡ false → ⊥
    apart h = cc

-- there is none, where the end of a descent isn't feasible
pub not_given : (inst : Tables) (old : List (Option ℕ)) (turns : ℕ) (opening : List ℕ) (descended : Descended)
    → (IsFeasible inst (map Some opening) → ⊥) → IsDescended inst turns opening descended
    → descended.feasible ≡ false → IsIncumbent inst old turns opening None
not_given inst old turns opening descended infeasible is none =
    nothing descended.moves infeasible is.descent
    (λ feasible. not_true descended.feasible none
    (is.feasible.1 (subst (λ (xs : List ℕ). IsFeasible inst (map Some xs)) (sym is.end) feasible)))

pub given_plan : (inst : Tables) (old : List (Option ℕ)) (turns : ℕ) (opening : List ℕ) (given : Option (List ℕ))
    → length opening ≡ length inst.names → IsIncumbent inst old turns opening given
    → IfSome given (IsFeasiblePlan inst)
given_plan inst old turns opening given each (opens feasible) = record { each = each; feasible = feasible }
given_plan inst old turns opening given each (descends changes plan i d f back) = back.plan
given_plan inst old turns opening given each (nothing changes i d f) = tt

-- what that end gives back, where it is
pub end_given : (inst : Tables) (old : List (Option ℕ)) (turns : ℕ) (opening : List ℕ) (descended : Descended)
    (seen plan : List ℕ)
    → (IsFeasible inst (map Some opening) → ⊥) → IsDescended inst turns opening descended
    → IsTrue descended.feasible → seen ≡ descended.starts → IsBackFrom inst old seen plan
    → IsIncumbent inst old turns opening (Some plan)
end_given inst old turns opening descended seen plan infeasible is holds same back =
    descends descended.moves plan infeasible is.descent
    (subst (λ (xs : List ℕ). IsFeasible inst (map Some xs)) is.end (is.feasible.0 holds))
    (subst (λ (xs : List ℕ). IsBackFrom inst old xs plan) (same ∙ is.end) back)
