-- What is found where the first place is.
use Rattle.std.proofs.Common.{◌≡◌, ℕ, suc, ◌+◌, ◌<◌, Bool, true, false, cond, List, [], ◌∷◌, length, get_or, Some, None}
use Rattle.std.proofs.Common.{refl, ◌∙◌, ap, arith}
use Rattle.std.specs.Prelude.{find}
use Rattle.std.specs.List.{position_from}

pub place_none : {A : Type 0} (p : A → Bool) (n : ℕ) (xs : List A) → position_from p n xs ≡ None → find p xs ≡ None
place_none p n [] h = refl
place_none p n (x ∷ xs) h = by (p x) h (place_none p (n + 1) xs)
  where
    by : (b : Bool) → cond b (Some n) (position_from p (n + 1) xs) ≡ None
        → (position_from p (n + 1) xs ≡ None → find p xs ≡ None) → cond b (Some x) (find p xs) ≡ None
    by true h r = cc
    by false h r = r h

-- the first element that passes stands at place i
pub record StandsAt {A : Type 0} (p : A → Bool) (xs : List A) (i : ℕ) : Type 0 where
  pub below : i < length xs
  pub first : (d : A) → find p xs ≡ Some (get_or xs i d)

stands : {A : Type 0} (p : A → Bool) (n : ℕ) (xs : List A) (k : ℕ) → position_from p n xs ≡ Some k
    → (i : ℕ) × (k ≡ n + i) × StandsAt p xs i
stands p n [] k h = cc
stands {A} p n (x ∷ xs) k h = by (p x) refl h (stands p (n + 1) xs k)
  where
    by : (b : Bool) → p x ≡ b → cond b (Some n) (position_from p (n + 1) xs) ≡ Some k
        → (position_from p (n + 1) xs ≡ Some k → (i : ℕ) × (k ≡ n + 1 + i) × StandsAt p xs i)
        → (i : ℕ) × (k ≡ n + i) × StandsAt p (x ∷ xs) i
    by true e h r = let same : n ≡ k = cc in
        (0, omega (arith, same), record { below = omega arith; first = λ d. ap (λ b. cond b (Some x) (find p xs)) e })
    by false e h r =
        let q = r h in
        let rest : StandsAt p xs q.0 = q.2 in (
          suc q.0,
          omega (arith, q.1),
          record {
            below = omega (arith, rest.below);
            first = λ d. ap (λ b. cond b (Some x) (find p xs)) e ∙ rest.first d;
          },
        )

pub place_some : {A : Type 0} (p : A → Bool) (xs : List A) (k : ℕ) → position_from p 0 xs ≡ Some k → StandsAt p xs k
place_some p xs k h = let q = stands p 0 xs k h in let same : q.0 ≡ k = omega (arith, q.1) in rw same at q.2
