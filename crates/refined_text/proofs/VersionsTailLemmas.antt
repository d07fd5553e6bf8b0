-- Prices without tails: those of one period after another are taken away.
use Rattle.std.proofs.Common.{◌≡◌, ℕ, zero, suc, ◌+◌, ◌-◌, ◌<◌, ◌≤◌, refl, ◌∙◌, ap, arith, List, [], ◌∷◌, ◌++◌, length}
use Rattle.std.proofs.Common.{set, drop, replicate, Option, None}
use Rattle.lagrange_bound.specs.declared.tail.Tail.{Tail}
use Rattle.lagrange_bound.specs.Prices.{PriceList}
use Rattle.lagrange_bound.specs.Changes.{with_tail}

-- tails by period of which the first k were taken away
abbrev pub cleared : ℕ → List (Option Tail) → List (Option Tail)
cleared k tails = replicate k None ++ drop k tails

clear_next : (k : ℕ) (tails : List (Option Tail)) → k < length tails
    → set (cleared k tails) k None ≡ cleared (suc k) tails
clear_next zero [] l = absurd (omega (arith, l))
clear_next zero (x ∷ xs) l = refl
clear_next (suc k) [] l = absurd (omega (arith, l))
clear_next (suc k) (x ∷ xs) l = ap (λ (ys : List (Option Tail)). None ∷ ys) (clear_next k xs (omega (arith, l)))

-- the prices with other tails
with_tails : PriceList → List (Option Tail) → PriceList
with_tails prices tails = record prices { tails = tails }

-- that of one period more is taken away
pub without_next : (prices old new : PriceList) (t : ℕ) → 1 ≤ t → t ≤ length prices.tails
    → old ≡ record prices { tails = cleared (t - 1) prices.tails } → new ≡ with_tail old t None
    → new ≡ record prices { tails = cleared (t + 1 - 1) prices.tails }
unfolding with_tails
without_next prices old new t one few so e =
    let l : t - 1 < length prices.tails = omega arith in
    let next : suc (t - 1) ≡ t + 1 - 1 = omega arith in
    e ∙ ap (λ (p : PriceList). with_tail p t None) so ∙ ap (with_tails prices) (clear_next (t - 1) prices.tails l)
    ∙ ap (λ (n : ℕ). with_tails prices (cleared n prices.tails)) next
