-- The number of greatest worth.
use Rattle.std.proofs.Common.{◌≡◌, ◌⊎◌, inl, inr, ℕ, ◌<◌, ◌≤◌, subst, arith, ℤ, ◌<ℤ◌, ◌≤ℤ◌}
use Rattle.std.proofs.lemmas.Bool.{cases_order}
use Rattle.fixed_num.proofs.SignedLemmas.{signed_arith}
use Rattle.certificate_tree.specs.Holding.{IsGreatest}

below_not_above : (a b : ℤ) → a <ℤ b → b ≤ℤ a → ⊥
below_not_above a b l m = omega (arith, signed_arith)

-- there is one
pub one_greatest : (worths : ℕ → ℤ) (n j k : ℕ) → IsGreatest worths n j → IsGreatest worths n k → j ≡ k
one_greatest worths n j k a b = at (cases_order j k)
  where
    at : (j ≡ k) ⊎ ((j < k) ⊎ (k < j)) → j ≡ k
    at (inl e) = e
    at (inr (inl l)) = absurd (below_not_above (worths j) (worths k) (b.least j l) (a.greatest k b.number))
    at (inr (inr l)) = absurd (below_not_above (worths k) (worths j) (a.least k l) (b.greatest j a.number))

-- the same worths have the same
pub greatest_same : (worths others : ℕ → ℤ) (n j : ℕ) → ((k : ℕ) → k ≤ n → worths k ≡ others k)
    → IsGreatest worths n j → IsGreatest others n j
greatest_same worths others n j same g =
    let here = same j g.number in
    record {
      number = g.number;
      greatest = λ k l. subst (λ (z : ℤ). others k ≤ℤ z) here
          (subst (λ (z : ℤ). z ≤ℤ worths j) (same k l) (g.greatest k l));
      least = λ k l. subst (λ (z : ℤ). others k <ℤ z) here
          (subst (λ (z : ℤ). z <ℤ worths j) (same k (omega (arith, l, g.number))) (g.least k l));
    }
