-- The keys fall along a descent: so no plan of it has a smaller violation than its end, which stays feasible.
use Rattle.std.proofs.Common.{◌≡◌, ◌⊎◌, inl, inr, ℕ, zero, suc, ◌+◌, ◌-◌, ◌<◌, refl, sym, ◌∙◌, ap, subst, arith, ℤ, pos}
use Rattle.std.proofs.Common.{◌≤ℤ◌, ◌<ℤ◌, List, [], ◌∷◌, length, map, Option, Some, All}
use Rattle.std.specs.Prelude.{slice_index_or}
use Rattle.std.proofs.lemmas.List.Elements.{All-nil, All-cons}
use Rattle.fixed_num.specs.Sums.{sum_below}
use Rattle.fixed_num.proofs.SignedLemmas.{signed_arith}
use Rattle.fixed_num.proofs.SumLemmas.{sum_below-zero, sum_below-suc}
use Rattle.instance_model.specs.declared.key.Key.{Key}
use Rattle.instance_model.specs.Tables.{Tables}
use Rattle.instance_model.specs.Plans.{AreAllowedStarts}
use Rattle.instance_model.specs.Rules.{IsFeasible}
use Rattle.instance_model.specs.Values.{score_of}
use Rattle.instance_model.specs.Keys.{band_gap, band_gaps, violation_of, KeyBelow}
use Rattle.instance_model.proofs.KeyLemmas.{feasible-from_violation, violation_of-feasible}
use Rattle.plan_moves.specs.declared.change.Change.{Change}
use Rattle.plan_moves.specs.Changing.{after_change}
use Rattle.plan_moves.specs.KeptPlans.{present}
use Rattle.local_search.specs.Descents.{AllLower, plans_after, plan_key}
use Rattle.local_search.specs.Ends.{end_of}

-- ---- no violation is below 0

parts_not_below : (n : ℕ) (f : ℕ → ℤ) → ((k : ℕ) → pos 0 ≤ℤ f k) → pos 0 ≤ℤ sum_below n f
parts_not_below zero f h = rw (sum_below-zero f) (omega (arith, signed_arith))
parts_not_below (suc n) f h =
    let before : pos 0 ≤ℤ sum_below n f = parts_not_below n f h in
    let here : pos 0 ≤ℤ f n = h n in
    rw (sum_below-suc n f) (omega (arith, signed_arith))

gap_not_below : (inst : Tables) (plan : List (Option ℕ)) (c t : ℕ) → pos 0 ≤ℤ band_gap inst plan c t
unfolding band_gap
gap_not_below inst plan c t = omega (arith, signed_arith)

gaps_not_below : (inst : Tables) (plan : List (Option ℕ)) → pos 0 ≤ℤ band_gaps inst plan
unfolding band_gaps
gaps_not_below inst plan =
    parts_not_below (length inst.resource_names)
    (λ c. sum_below inst.periods (λ u. band_gap inst plan c (u + 1)))
    (λ c. parts_not_below inst.periods (λ u. band_gap inst plan c (u + 1)) (λ u. gap_not_below inst plan c (u + 1)))

violation_not_below : (inst : Tables) (plan : List (Option ℕ)) → pos 0 ≤ℤ violation_of inst plan
unfolding violation_of
violation_not_below inst plan =
    let gaps : pos 0 ≤ℤ band_gaps inst plan = gaps_not_below inst plan in omega (arith, signed_arith, gaps)

-- ---- keys

-- a key is not above another
abbrev AtMost : Key → Key → Type 0
AtMost a b = (a.violation <ℤ b.violation) ⊎ ((a.violation ≡ b.violation) × (a.score ≤ℤ b.score))

at_most_self : (a : Key) → AtMost a a
at_most_self a = inr (refl, omega (arith, signed_arith))

at_most_below : (a b c : Key) → AtMost a b → KeyBelow b c → AtMost a c
at_most_below a b c (inl l) (inl m) = inl (omega (arith, signed_arith, l, m))
at_most_below a b c (inl l) (inr m) = inl (omega (arith, signed_arith, l, m.0))
at_most_below a b c (inr l) (inl m) = inl (omega (arith, signed_arith, l.0, m))
at_most_below a b c (inr l) (inr m) = inr (l.0 ∙ m.0, omega (arith, signed_arith, l.1, m.1))

at_most_violation : (a b : Key) → AtMost a b → a.violation ≤ℤ b.violation
at_most_violation a b (inl l) = omega (arith, signed_arith, l)
at_most_violation a b (inr l) = omega (arith, signed_arith, l.0)

-- where both have no violation
at_most_score : (a b : Key) → a.violation ≡ pos 0 → b.violation ≡ pos 0 → AtMost a b → a.score ≤ℤ b.score
at_most_score a b none also (inl l) = absurd (omega (arith, signed_arith, none, also, l))
at_most_score a b none also (inr l) = l.1

-- ---- the end of a descent

last_of : (first next : List ℕ) (plans : List (List ℕ)) → present (first ∷ next ∷ plans) ≡ present (next ∷ plans)
last_of first next plans =
    let e : length (first ∷ next ∷ plans) - 1 ≡ suc (length (next ∷ plans) - 1) = omega arith in
    subst (λ (n : ℕ). slice_index_or (first ∷ next ∷ plans) n [] ≡ present (next ∷ plans)) (sym e) refl

end_more : (plan : List ℕ) (change : Change) (changes : List Change)
    → end_of plan (change ∷ changes) ≡ end_of (after_change change plan) changes
end_more plan change changes =
    last_of plan (after_change change plan) (plans_after (after_change change plan) changes)

module _ (inst : Tables) where
  abbrev violation_at : List ℕ → ℤ
  violation_at plan = violation_of inst (map Some plan)

  end_falls : (plan : List ℕ) (changes : List Change) → AllLower inst plan changes
      → AtMost (plan_key inst (end_of plan changes)) (plan_key inst plan)
  end_falls plan [] lower = at_most_self (plan_key inst plan)
  end_falls plan (change ∷ changes) lower =
      let next = after_change change plan in
      at_most_below (plan_key inst (end_of plan (change ∷ changes))) (plan_key inst next) (plan_key inst plan)
      (subst (λ (p : List ℕ). AtMost (plan_key inst p) (plan_key inst next)) (sym (end_more plan change changes))
      (end_falls next changes lower.1)) lower.0.lower

  -- the violation of the end is no greater than that of any plan of the descent
  pub end_is_least : (plan : List ℕ) (changes : List Change) → AllLower inst plan changes → (z : ℤ)
      → z ≡ violation_at (end_of plan changes)
      → All (λ p. z ≤ℤ violation_at p) (plan ∷ plans_after plan changes)
  end_is_least plan [] lower z is =
      All-cons (λ p. z ≤ℤ violation_at p) plan [] (omega (arith, signed_arith, is))
      (All-nil (λ p. z ≤ℤ violation_at p))
  end_is_least plan (change ∷ changes) lower z is =
      let next = after_change change plan in
      let falls = at_most_violation (plan_key inst (end_of plan (change ∷ changes))) (plan_key inst plan)
      (end_falls plan (change ∷ changes) lower) in
      All-cons (λ p. z ≤ℤ violation_at p) plan (next ∷ plans_after next changes)
      (subst (λ (x : ℤ). x ≤ℤ violation_at plan) (sym is) falls)
      (end_is_least next changes lower.1 z (is ∙ ap violation_at (end_more plan change changes)))

  -- from a plan that keeps every rule
  module _ (plan : List ℕ) (changes : List Change) (lower : AllLower inst plan changes)
      (feasible : IsFeasible inst (map Some plan)) where
    none_before : violation_at plan ≡ pos 0
    none_before = violation_of-feasible inst (map Some plan) feasible

    falls : AtMost (plan_key inst (end_of plan changes)) (plan_key inst plan)
    falls = end_falls plan changes lower

    none_after : violation_at (end_of plan changes) ≡ pos 0
    none_after =
        let most : violation_at (end_of plan changes) ≤ℤ violation_at plan =
        at_most_violation (plan_key inst (end_of plan changes)) (plan_key inst plan) falls in
        let least : pos 0 ≤ℤ violation_at (end_of plan changes) =
        violation_not_below inst (map Some (end_of plan changes)) in
        omega (arith, signed_arith, none_before, most, least)

    pub end_feasible : AreAllowedStarts inst (end_of plan changes) → IsFeasible inst (map Some (end_of plan changes))
    end_feasible allowed = feasible-from_violation inst (end_of plan changes) allowed none_after

    pub end_no_worse : score_of inst (map Some (end_of plan changes)) ≤ℤ score_of inst (map Some plan)
    end_no_worse =
        at_most_score (plan_key inst (end_of plan changes)) (plan_key inst plan) none_after none_before falls
