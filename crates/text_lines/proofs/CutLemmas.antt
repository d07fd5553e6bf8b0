-- A text that is cut at a byte.
use Rattle.std.proofs.Common.{◌≡◌, ◌≢◌, ℕ, List, [], ◌∷◌, ◌++◌, refl, sym, subst}
use Rattle.std.specs.List.{All}
use Rattle.std.proofs.lemmas.List.Elements.{All-head, All-tail}

-- a text is cut at its first such byte in one way only
pub cut_once : (x : ℕ) (a b c d : List ℕ) → All (λ y. y ≢ x) a → All (λ y. y ≢ x) c
    → a ++ x ∷ b ≡ c ++ x ∷ d → (a ≡ c) × (b ≡ d)
cut_once x [] b [] d p q e = (refl, cc)
cut_once x [] b (y ∷ c) d p q e = let head : x ≡ y = cc in absurd (All-head (λ z. z ≢ x) y c q (sym head))
cut_once x (y ∷ a) b [] d p q e = let head : y ≡ x = cc in absurd (All-head (λ z. z ≢ x) y a p head)
cut_once x (y ∷ a) b (z ∷ c) d p q e =
    let tails : a ++ x ∷ b ≡ c ++ x ∷ d = cc in
    let heads : y ≡ z = cc in
    let more = cut_once x a b c d (All-tail (λ w. w ≢ x) y a p) (All-tail (λ w. w ≢ x) z c q) tails in
    let fronts : a ≡ c = more.0 in
    (cc, more.1)

-- a text without such a byte is not cut
pub not_cut : (x : ℕ) (text a b : List ℕ) → text ≡ a ++ x ∷ b → All (λ y. y ≢ x) text → ⊥
not_cut x text a b e h = go a (subst (All (λ y. y ≢ x)) e h)
  where
    go : (a : List ℕ) → All (λ y. y ≢ x) (a ++ x ∷ b) → ⊥
    go [] h = All-head (λ y. y ≢ x) x b h refl
    go (y ∷ a) h = go a (All-tail (λ y. y ≢ x) y (a ++ x ∷ b) h)
