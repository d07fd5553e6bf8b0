-- The numbers below a bound that pass a test, in order.
use Rattle.std.proofs.Common.{◌≡◌, ℕ, zero, suc, ◌+◌, ◌<◌, refl, sym, ◌∙◌, ap, subst, arith, add-one, Bool, true}
use Rattle.std.proofs.Common.{false, cond, List, [], ◌∷◌, ◌++◌, map, filter, get_or, eqb}
use Rattle.std.specs.List.{range_with_len, All}
use Rattle.std.proofs.lemmas.Bool.Decides.{nat_tests}
use Rattle.std.proofs.lemmas.List.{map-id, map-append, append-nil}
use Rattle.std.proofs.lemmas.List.Elements.{All-get_or, All-from_get_or, All-filter}
use Rattle.std.proofs.lemmas.List.FromFn.{filter_of_map_range_with_len_more, length-map-range_with_len}
use Rattle.std.proofs.lemmas.List.FromFn.{get_or-map-range_with_len, length-range_with_len, get_or-range_with_len}

-- one number more
pub filter_range_more : (p : ℕ → Bool) (n : ℕ) → filter p (range_with_len 0 (n + 1))
    ≡ filter p (range_with_len 0 n) ++ cond (p n) (n ∷ []) []
filter_range_more p n =
    ap (filter p) (sym (map-id (range_with_len 0 (n + 1))))
    ∙ filter_of_map_range_with_len_more p (λ (x : ℕ). x) 0 n n (omega arith)
    ∙ ap (λ (xs : List ℕ). filter p xs ++ cond (p n) (n ∷ []) []) (map-id (range_with_len 0 n))

-- a list of what f makes of these numbers, where one more passes, or doesn't
module _ {X : Type 0} (f : ℕ → X) (p : ℕ → Bool) (n : ℕ) (xs : List X)
    (so_far : xs ≡ map f (filter p (range_with_len 0 n))) where
  all_more : map f (filter p (range_with_len 0 (n + 1)))
      ≡ map f (filter p (range_with_len 0 n)) ++ map f (cond (p n) (n ∷ []) [])
  all_more = ap (map f) (filter_range_more p n) ∙ map-append f (filter p (range_with_len 0 n)) (cond (p n) (n ∷ []) [])

  pub one_passes : (ys : List X) → ys ≡ xs ++ f n ∷ [] → p n ≡ true → ys ≡ map f (filter p (range_with_len 0 (n + 1)))
  one_passes ys e h =
      e ∙ ap (λ (zs : List X). zs ++ f n ∷ []) so_far
      ∙ ap (λ (b : Bool). map f (filter p (range_with_len 0 n)) ++ map f (cond b (n ∷ []) [])) (sym h)
      ∙ sym all_more

  pub one_fails : p n ≡ false → xs ≡ map f (filter p (range_with_len 0 (n + 1)))
  one_fails h =
      so_far ∙ sym (append-nil (map f (filter p (range_with_len 0 n))))
      ∙ ap (λ (b : Bool). map f (filter p (range_with_len 0 n)) ++ map f (cond b (n ∷ []) [])) (sym h)
      ∙ sym all_more

-- the same of the numbers themselves
module _ (p : ℕ → Bool) (n : ℕ) (xs : List ℕ) (so_far : xs ≡ filter p (range_with_len 0 n)) where
  pub number_passes : (ys : List ℕ) → ys ≡ xs ++ n ∷ [] → p n ≡ true → ys ≡ filter p (range_with_len 0 (n + 1))
  number_passes ys e h =
      e ∙ ap (λ (zs : List ℕ). zs ++ n ∷ []) so_far
      ∙ ap (λ (b : Bool). filter p (range_with_len 0 n) ++ cond b (n ∷ []) []) (sym h)
      ∙ sym (filter_range_more p n)

  pub number_fails : p n ≡ false → xs ≡ filter p (range_with_len 0 (n + 1))
  number_fails h =
      so_far ∙ sym (append-nil (filter p (range_with_len 0 n)))
      ∙ ap (λ (b : Bool). filter p (range_with_len 0 n) ++ cond b (n ∷ []) []) (sym h)
      ∙ sym (filter_range_more p n)

-- where no number below n passes, the list is empty
pub none_passes : (p : ℕ → Bool) (n : ℕ) → ((k : ℕ) → k < n → p k ≡ false) → filter p (range_with_len 0 n) ≡ []
none_passes p zero h = refl
none_passes p (suc n) h =
    let ih : filter p (range_with_len 0 n) ≡ [] = none_passes p n (λ k l. h k (omega (arith, l))) in
    let here : p n ≡ false = h n (omega arith) in
    let more : filter p (range_with_len 0 n) ++ cond (p n) (n ∷ []) [] ≡ [] = rw (ih, here) refl in
    ap (λ (m : ℕ). filter p (range_with_len 0 m)) (sym (add-one n)) ∙ filter_range_more p n ∙ more

nothing_in_front : {X : Type 0} (xs ys : List X) → xs ++ ys ≡ [] → (xs ≡ []) × (ys ≡ [])
nothing_in_front [] ys e = (refl, e)
nothing_in_front (x ∷ xs) ys e = absurd (cc)

-- and the other way round
pub all_fail : (p : ℕ → Bool) (n : ℕ) → filter p (range_with_len 0 n) ≡ [] → (k : ℕ) → k < n → p k ≡ false
all_fail p zero e k l = absurd (omega (arith, l))
all_fail p (suc n) e k l =
    let parts : (filter p (range_with_len 0 n) ≡ []) × (cond (p n) (n ∷ []) [] ≡ []) =
    nothing_in_front (filter p (range_with_len 0 n)) (cond (p n) (n ∷ []) [])
    (sym (filter_range_more p n) ∙ ap (λ (m : ℕ). filter p (range_with_len 0 m)) (add-one n) ∙ e) in
    at (eqb k n) refl parts (all_fail p n parts.0 k)
  where
    last : (b : Bool) → cond b (n ∷ []) [] ≡ [] → b ≡ false
    last true h = absurd (cc)
    last false h = refl

    at : (b : Bool) → eqb k n ≡ b → (filter p (range_with_len 0 n) ≡ []) × (cond (p n) (n ∷ []) [] ≡ [])
        → (k < n → p k ≡ false) → p k ≡ false
    at true same parts below =
        let e' : k ≡ n = grind (arith, nat_tests) in rw e' (last (p n) parts.1)
    at false other parts below = below (grind (arith, nat_tests))

-- what holds of each number below n holds of those that pass
pub below_all : (p : ℕ → Bool) (n : ℕ) → All (λ k. k < n) (filter p (range_with_len 0 n))
below_all p n =
    All-filter p (λ k. k < n) (range_with_len 0 n)
    (All-from_get_or (λ k. k < n) (range_with_len 0 n) 0
    (λ i l. let low : i < n = omega (arith, length-range_with_len 0 n, l) in
    let e : get_or (range_with_len 0 n) i 0 ≡ 0 + i = get_or-range_with_len 0 n i 0 low in omega (arith, e, low)))

-- what f makes of each number below n has a property exactly where each has it
pub All-made : {X : Type 0} (P : X → Type 0) (f : ℕ → X) (n : ℕ) → ((k : ℕ) → k < n → P (f k))
    → All P (map f (range_with_len 0 n))
All-made P f n h =
    All-from_get_or P (map f (range_with_len 0 n)) (f 0)
    (λ i l. let low : i < n = omega (arith, length-map-range_with_len f 0 n, l) in
    subst P (sym (get_or-map-range_with_len f 0 n i i (f 0) low (omega arith))) (h i low))

pub each_made : {X : Type 0} (P : X → Type 0) (f : ℕ → X) (n : ℕ) → All P (map f (range_with_len 0 n)) → (k : ℕ) → k < n
    → P (f k)
each_made P f n all k l =
    subst P (get_or-map-range_with_len f 0 n k k (f 0) l (omega arith))
    (All-get_or P (map f (range_with_len 0 n)) k (f 0) (omega (arith, length-map-range_with_len f 0 n, l)) all)
