-- When the bound is the least score.
use Rattle.std.proofs.Common.{◌≡◌, ◌⊎◌, inl, inr, ◌∙◌, refl, sym, subst, ℕ, Bool, true, false, List, map, Option, Some}
use Rattle.std.proofs.Common.{None, arith}
use Rattle.std.proofs.lemmas.Bool.{OnFalse_at}
use Rattle.std.proofs.lemmas.List.{length-map}
use Rattle.instance_model.specs.Tables.{Tables}
use Rattle.instance_model.specs.Values.{score_of}
use Rattle.instance_model.proofs.RuleLemmas.{KeepsRules-from}
use Rattle.lagrange_bound.specs.Goals.{risk_value}
use Rattle.branch_search.specs.declared.part.Part.{Part}
use Rattle.branch_search.specs.Best.{IsFeasiblePlan, IsBestOver, bound_of}
use Rattle.refined_check.specs.declared.certificate.certificate.RefinedCertificate.{RefinedCertificate}
use Rattle.refined_search.specs.declared.raised.Raised.{Raised}
use Rattle.refined_search.specs.Raising.{IsRaised}
use Rattle.branch_search.specs.Turns.{AreEnough}
use Rattle.command_answers.specs.Check.{IsKeptPlan, BoundsEveryPlan}
use Rattle.command_bound.specs.Bounding.{IsLeastScore, LeavesTheRest}

-- a feasible plan keeps every rule
pub kept_plan : (inst : Tables) (plan : List ℕ) → IsFeasiblePlan inst plan → IsKeptPlan inst (map Some plan)
kept_plan inst plan is = record {
  each = length-map plan Some ∙ is.each;
  keeps = KeepsRules-from inst (map Some plan) is.feasible;
}

-- the bound that is the value of the best plan
reached : (inst : Tables) (incumbent best : Option (List ℕ)) → IsBestOver risk_value inst incumbent best
    → BoundsEveryPlan inst (bound_of risk_value inst best) → IsLeastScore inst (bound_of risk_value inst best)
reached inst incumbent None is bounds = bounds.none refl
reached inst incumbent (Some plan) is bounds =
    ((map Some plan, kept_plan inst plan is.feasible, refl), bounds.least (score_of inst (map Some plan)) refl)

module _ (inst : Tables) (handed_in : Option (List ℕ)) (cert : Option RefinedCertificate) (turns : ℕ) (part : Part)
    (most : ℕ) (answer : Raised)
    (is : IsRaised inst handed_in cert turns part most answer) (bounds : BoundsEveryPlan inst answer.cert.bound) where
  finished : answer.unfinished ≡ false → IsLeastScore inst answer.cert.bound
  finished e =
      let same = OnFalse_at e is.finished in
      subst (IsLeastScore inst) (sym same)
      (reached inst handed_in answer.best
      (subst (IsBestOver risk_value inst handed_in) (sym is.best) is.gone_on.by.best)
      (subst (BoundsEveryPlan inst) same bounds))

  pub least_or_spent : (answer.splits ≡ turns) ⊎ IsLeastScore inst answer.cert.bound
      ⊎ LeavesTheRest inst handed_in cert turns part most answer is
  least_or_spent = at answer.unfinished refl
    where
      when : (answer.splits ≡ turns) ⊎ LeavesTheRest inst handed_in cert turns part most answer is
          → (answer.splits ≡ turns) ⊎ IsLeastScore inst answer.cert.bound
          ⊎ LeavesTheRest inst handed_in cert turns part most answer is
      when (inl e) = inl e
      when (inr o) = inr (inr o)

      at : (b : Bool) → answer.unfinished ≡ b → (answer.splits ≡ turns) ⊎ IsLeastScore inst answer.cert.bound
          ⊎ LeavesTheRest inst handed_in cert turns part most answer is
      at true e = when (is.spent e)
      at false e = inr (inl (finished e))

  pub least_enough : AreEnough inst turns → IsLeastScore inst answer.cert.bound
      ⊎ LeavesTheRest inst handed_in cert turns part most answer is
  least_enough enough = at answer.unfinished refl
    where
      at : (b : Bool) → answer.unfinished ≡ b → IsLeastScore inst answer.cert.bound
          ⊎ LeavesTheRest inst handed_in cert turns part most answer is
      at true e = inr (is.enough enough e)
      at false e = inl (finished e)

-- where there is one part alone, nothing is left to others
pub least_of_one : (inst : Tables) (handed_in : Option (List ℕ)) (cert : Option RefinedCertificate) (turns : ℕ)
    (part : Part) (most : ℕ) (answer : Raised) (is : IsRaised inst handed_in cert turns part most answer)
    → part.count ≡ 1
    → IsLeastScore inst answer.cert.bound ⊎ LeavesTheRest inst handed_in cert turns part most answer is
    → IsLeastScore inst answer.cert.bound
least_of_one inst handed_in cert turns part most answer is one (inl least) = least
least_of_one inst handed_in cert turns part most answer is one (inr rest) =
    absurd (let l = rest.others in omega (arith, l, one))
