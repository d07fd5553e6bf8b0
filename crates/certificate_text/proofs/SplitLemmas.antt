-- Lists of lines that are cut where a kind of line ends.
use Rattle.std.proofs.Common.{◌≡◌, refl, ◌∙◌, ap, subst, List, [], ◌∷◌, ◌++◌}
use Rattle.std.specs.List.{AllByRecursion}

-- the first element, where there is one, isn't such
abbrev pub BeginsOut : {A : Type 0} → (A → Type 0) → List A → Type 0
BeginsOut In [] = Unit {0}
BeginsOut In (x ∷ xs) = In x → ⊥

-- such elements in front of others are cut off in one way
pub split_one_way : {A : Type 0} (In : A → Type 0) (xs us ys vs : List A) → AllByRecursion In xs → AllByRecursion In us
    → BeginsOut In ys → BeginsOut In vs → xs ++ ys ≡ us ++ vs → (xs ≡ us) × (ys ≡ vs)
split_one_way In [] [] ys vs a b c d e = (refl, e)
split_one_way {A = A} In [] (u ∷ us) [] vs a b c d e = absurd (let z : ⊥ = cc in z)
split_one_way {A = A} In [] (u ∷ us) (y ∷ ys) vs a b c d e = absurd (let same : u ≡ y = cc in c (subst In same b.0))
split_one_way {A = A} In (x ∷ xs) [] ys [] a b c d e = absurd (let z : ⊥ = cc in z)
split_one_way {A = A} In (x ∷ xs) [] ys (v ∷ vs) a b c d e = absurd (let same : x ≡ v = cc in d (subst In same a.0))
split_one_way {A = A} In (x ∷ xs) (u ∷ us) ys vs a b c d e =
    let head : x ≡ u = cc in
    let tail : xs ++ ys ≡ us ++ vs = cc in
    let w = split_one_way In xs us ys vs a.1 b.1 c d tail in
    (ap (λ (z : A). z ∷ xs) head ∙ ap (λ (zs : List A). u ∷ zs) w.0, w.1)
