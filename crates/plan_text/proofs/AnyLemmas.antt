-- Some element of a list, after one more was added at its end.
use Rattle.std.proofs.Common.{◌≡◌, ℕ, ◌+◌, ◌<◌, ◌≤◌, ◌⊎◌, inl, inr, ⊎_elim, List, [], ◌∷◌, ◌++◌, length, take, get_or}
use Rattle.std.proofs.Common.{sym, ◌∙◌, subst, arith}
use Rattle.std.specs.List.{Any}
use Rattle.std.proofs.lemmas.Bool.{cases_lt}
use Rattle.std.proofs.lemmas.List.{get_or_append_left, get_or_push, length_push, get_or-take, take_more, length-take-le}
use Rattle.std.proofs.lemmas.List.{get_or_default}
use Rattle.std.proofs.lemmas.List.Quantifiers.{Any-push}

-- one that was there before
pub any_front : {X : Type 0} (P : X → Type 0) (xs : List X) (y : X) → Any P xs → Any P (xs ++ y ∷ [])
any_front P xs y (k, x, l, e, p) = (k, x, omega (arith, length_push xs y), get_or_append_left xs (y ∷ []) x k l ∙ e, p)

-- one that was there before, or the last
pub any_push_cases : {X : Type 0} (P : X → Type 0) (xs : List X) (y : X) → Any P (xs ++ y ∷ []) → Any P xs ⊎ P y
any_push_cases P xs y (k, x, l, e, p) =
    ⊎_elim (λ below. inl (k, x, below, sym (get_or_append_left xs (y ∷ []) x k below) ∙ e, p))
    (λ past. inr (let at : length xs ≡ k = omega (arith, length_push xs y, l) in
    subst P (sym e ∙ get_or_push xs y x k at) p))
    (cases_lt k (length xs))

-- the same of the first elements of a list
pub any_take_more : {X : Type 0} (P : X → Type 0) (xs : List X) (n : ℕ) (d : X) → n < length xs → Any P (take n xs)
    → Any P (take (n + 1) xs)
any_take_more P xs n d l h =
    subst (λ ys. Any P ys) (sym (take_more xs n d l)) (any_front P (take n xs) (get_or xs n d) h)

pub any_take_here : {X : Type 0} (P : X → Type 0) (xs : List X) (n : ℕ) (d : X) → n < length xs → P (get_or xs n d)
    → Any P (take (n + 1) xs)
any_take_here P xs n d l h =
    subst (λ ys. Any P ys) (sym (take_more xs n d l)) (Any-push P (take n xs) (get_or xs n d) h)

pub any_take_cases : {X : Type 0} (P : X → Type 0) (xs : List X) (n : ℕ) (d : X) → n < length xs
    → Any P (take (n + 1) xs) → Any P (take n xs) ⊎ P (get_or xs n d)
any_take_cases P xs n d l h =
    any_push_cases P (take n xs) (get_or xs n d) (subst (λ ys. Any P ys) (take_more xs n d l) h)

-- one of the first elements stands at a place below
pub any_take_place : {X : Type 0} (P : X → Type 0) (xs : List X) (n : ℕ) (d : X) → n ≤ length xs → Any P (take n xs)
    → (k : ℕ) × (k < n) × P (get_or xs k d)
any_take_place P xs n d within (k, x, l, e, p) =
    let below : k < n = omega (arith, length-take-le n xs within, l) in
    (k, below, subst P (sym e ∙ get_or-take n xs k x below ∙ get_or_default xs k x d (omega arith)) p)
