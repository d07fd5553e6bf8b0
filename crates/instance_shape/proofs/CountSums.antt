-- Sums of natural numbers: of terms that are added, exchanged or compared, over
-- a column, and over the elements of a list.
use Rattle.std.proofs.Common.{◌≡◌, ℕ, zero, suc, ◌+◌, ◌<◌, ◌≤◌, Bool, true, false, cond, List, [], ◌∷◌, map, length}
use Rattle.std.proofs.Common.{refl, sym, ◌∙◌, ap, arith}
use Rattle.std.specs.Prelude.{All, slice_index_or}
use Rattle.std.specs.List.{sum_by}
use Rattle.std.proofs.lemmas.Bool.{false_from_ne_true}
use Rattle.std.proofs.lemmas.List.Elements.{All-head, All-tail}
use Rattle.std.proofs.lemmas.List.Sums.{sum_by-cons}
use Rattle.instance_model.specs.Naturals.{count_sum}
use Rattle.instance_model.proofs.EntryLemmas.{count_sum_le}

-- ---- sums below a number

pub count_sum_below : (n : ℕ) (f g : ℕ → ℕ) → ((k : ℕ) → k < n → f k ≤ g k) → count_sum n f ≤ count_sum n g
unfolding count_sum
count_sum_below zero f g h = omega arith
count_sum_below (suc n) f g h = omega (arith, count_sum_below n f g (λ k l. h k (omega arith)), h n (omega arith))

pub count_sum-zeros : (n : ℕ) → count_sum n (λ k. 0) ≡ 0
unfolding count_sum
count_sum-zeros zero = refl
count_sum-zeros (suc n) = omega (arith, count_sum-zeros n)

pub count_sum-ones : (n : ℕ) → count_sum n (λ k. 1) ≡ n
unfolding count_sum
count_sum-ones zero = refl
count_sum-ones (suc n) = omega (arith, count_sum-ones n)

pub count_sum-plus : (n : ℕ) (f g : ℕ → ℕ) → count_sum n (λ k. f k + g k) ≡ count_sum n f + count_sum n g
unfolding count_sum
count_sum-plus zero f g = omega arith
count_sum-plus (suc n) f g = omega (arith, count_sum-plus n f g)

count_sum-add : (a d : ℕ) (f : ℕ → ℕ) → count_sum (a + d) f ≡ count_sum a f + count_sum d (λ j. f (a + j))
unfolding count_sum
count_sum-add a zero f = let e : a + 0 ≡ a = omega arith in ap (λ n. count_sum n f) e ∙ omega arith
count_sum-add a (suc d) f = let e : a + suc d ≡ suc (a + d) = omega arith in
    let q : count_sum (a + suc d) f ≡ count_sum (suc (a + d)) f = ap (λ n. count_sum n f) e in
    omega (arith, q, count_sum-add a d f)

-- a part of a sum
pub count_sum_part : (n a d : ℕ) (f : ℕ → ℕ) → a + d ≤ n → count_sum d (λ j. f (a + j)) ≤ count_sum n f
count_sum_part n a d f h = omega (arith, count_sum-add a d f, count_sum_le (a + d) n f h)

-- sums over two numbers in either order
pub count_sum_swap : (n m : ℕ) (f : ℕ → ℕ → ℕ)
    → count_sum n (λ i. count_sum m (λ j. f i j)) ≡ count_sum m (λ j. count_sum n (λ i. f i j))
unfolding count_sum
count_sum_swap zero m f = sym (count_sum-zeros m)
count_sum_swap (suc n) m f = ap (λ q. q + count_sum m (λ j. f n j)) (count_sum_swap n m f)
    ∙ sym (count_sum-plus m (λ j. count_sum n (λ i. f i j)) (λ j. f n j))

none_of : (n : ℕ) (p : ℕ → Bool) (x : ℕ) → ((k : ℕ) → k < n → p k ≡ false) → count_sum n (λ k. cond (p k) x 0) ≡ 0
unfolding count_sum
none_of zero p x h = refl
none_of (suc n) p x h = by (p n) (h n (omega arith)) (none_of n p x (λ k l. h k (omega arith)))
  where
    by : (b : Bool) → b ≡ false → count_sum n (λ k. cond (p k) x 0) ≡ 0
        → count_sum n (λ k. cond (p k) x 0) + cond b x 0 ≡ 0
    by true e r = cc
    by false e r = omega (arith, r)

-- a term that counts for at most one number
pub at_most_one : (n : ℕ) (p : ℕ → Bool) (x : ℕ) → ((a b : ℕ) → a < n → b < n → p a ≡ true → p b ≡ true → a ≡ b)
    → count_sum n (λ k. cond (p k) x 0) ≤ x
unfolding count_sum
at_most_one zero p x u = omega arith
at_most_one (suc n) p x u = by (p n) refl (at_most_one n p x (λ a b l m. u a b (omega arith) (omega arith)))
  where
    by : (b : Bool) → p n ≡ b → count_sum n (λ k. cond (p k) x 0) ≤ x
        → count_sum n (λ k. cond (p k) x 0) + cond b x 0 ≤ x
    by true e r = omega (
      arith,
      none_of n p x
          (λ k l. false_from_ne_true (p k) (λ q. let same : k ≡ n = u k n (omega arith) (omega arith) q e in
          absurd (omega (arith, same)))),
    )
    by false e r = omega (arith, r)

-- what a column grows by over some periods
pub column_grows : (before g : ℕ → ℕ) (a d : ℕ) → ((j : ℕ) → j < d → before (a + j + 1) ≡ before (a + j) + g j)
    → before (a + d) ≡ before a + count_sum d g
unfolding count_sum
column_grows before g a zero h = let e : a + 0 ≡ a = omega arith in omega (arith, ap before e)
column_grows before g a (suc d) h = let e : a + suc d ≡ a + d + 1 = omega arith in
    omega (arith, ap before e, h d (omega arith), column_grows before g a d (λ j l. h j (omega arith)))

-- ---- sums over a list

pub count_sum-shift : (n : ℕ) (f : ℕ → ℕ) → count_sum (suc n) f ≡ f 0 + count_sum n (λ i. f (suc i))
unfolding count_sum
count_sum-shift zero f = omega arith
count_sum-shift (suc n) f = omega (arith, count_sum-shift n f)

-- the sum over the places of a list is the sum over its elements
pub count_sum-places : {A B : Type 0} (f : A → B) (g : B → ℕ) (d : B) (xs : List A)
    → count_sum (length xs) (λ i. g (slice_index_or (map f xs) i d)) ≡ sum_by (λ x. g (f x)) xs
unfolding count_sum
count_sum-places f g d [] = refl
count_sum-places f g d (x ∷ xs) = count_sum-shift (length xs) (λ i. g (slice_index_or (map f (x ∷ xs)) i d))
    ∙ ap (λ n. g (f x) + n) (count_sum-places f g d xs) ∙ sym (sum_by-cons (λ x. g (f x)) x xs)

pub sum_by_same : {A : Type 0} (f g : A → ℕ) (xs : List A) → All (λ x. f x ≡ g x) xs → sum_by f xs ≡ sum_by g xs
sum_by_same f g [] a = refl
sum_by_same f g (x ∷ xs) a =
    omega (
      arith,
      sum_by-cons f x xs,
      sum_by-cons g x xs,
      All-head (λ x. f x ≡ g x) x xs a,
      sum_by_same f g xs (All-tail (λ x. f x ≡ g x) x xs a),
    )

pub sum_by_below : {A : Type 0} (f g : A → ℕ) (xs : List A) → All (λ x. f x ≤ g x) xs → sum_by f xs ≤ sum_by g xs
sum_by_below f g [] a = omega arith
sum_by_below f g (x ∷ xs) a =
    omega (
      arith,
      sum_by-cons f x xs,
      sum_by-cons g x xs,
      All-head (λ x. f x ≤ g x) x xs a,
      sum_by_below f g xs (All-tail (λ x. f x ≤ g x) x xs a),
    )
