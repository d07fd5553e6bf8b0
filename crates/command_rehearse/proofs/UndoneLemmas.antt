-- Plans that are taken off, one after another.
use Rattle.std.proofs.Common.{◌≡◌, ℕ, ◌-◌, ◌≤◌, ◌∙◌, ap, arith, List, length, take}
use Rattle.std.proofs.lemmas.List.{length-take-le, take-take}
use Rattle.plan_moves.specs.KeptPlans.{without_last}

-- of the first k plans the last one is taken off
pub one_less : (all plans : List (List ℕ)) (k j : ℕ) → plans ≡ take k all → k ≤ length all → j ≡ k - 1
    → without_last plans ≡ take j all
one_less all plans k j is within one =
    let size : length plans ≡ k = ap (λ (ps : List (List ℕ)). length ps) is ∙ length-take-le k all within in
    let least : length plans - 1 ≡ j = omega (arith, size, one) in
    ap (λ (n : ℕ). take n plans) least
    ∙ ap (λ (ps : List (List ℕ)). take j ps) is
    ∙ take-take j k all (omega (arith, one))
