-- For the law of the score: the least value over places, against each value, a sum, and the m-th smallest.
use Rattle.std.proofs.Common.{◌≡◌, ℕ, zero, suc, ◌+◌, ◌-◌, ◌<◌, ◌≤◌, ◌⊎◌, inl, inr, refl, sym, ap, subst, arith, ℤ, pos}
use Rattle.std.proofs.Common.{◌<ℤ◌, ◌≤ℤ◌, Bool, true, false, not, cond, List, [], ◌∷◌, length, get_or, map, fold, All}
use Rattle.std.proofs.Common.{Contains, count_by, int_le, ltb}
use Rattle.std.specs.Int.{int_min}
use Rattle.std.proofs.lemmas.Int.{by_lt_z, fold-int_min_bounds, fold-int_min_reached}
use Rattle.std.proofs.lemmas.Bool.Decides.{nat_tests}
use Rattle.std.proofs.lemmas.List.Sums.{sum_by-cons}
use Rattle.std.proofs.lemmas.List.Elements.{All-contains}
use borrow.Author.Differences.{lt_out, le_out, le-true}
use Rattle.fixed_num.specs.Sums.{sum_below, list_of}
use Rattle.fixed_num.specs.Rank.{mth_smallest}
use Rattle.fixed_num.proofs.SumLemmas.{sum_below_mono, get_or-list_of, length-list_of}
use Rattle.fixed_num.proofs.RankLemmas.{IsMthSmallest-mth_smallest}
use Rattle.lagrange_bound.specs.Least.{least_over, AscendAbove}

-- the least is at most each value, and it is one of them
pub least_over_le : (f : ℕ → ℤ) (ks : List ℕ) (k : ℕ) → Contains ks k → least_over f ks ≤ℤ f k
unfolding least_over
least_over_le f [] k (i, h, e) = absurd (omega (arith, h))
least_over_le f (j ∷ ks) k c = at c (fold-int_min_bounds (f j) (map f ks) (fold int_min (f j) (map f ks)) refl)
  where
    at : Contains (j ∷ ks) k
        → ((fold int_min (f j) (map f ks) ≤ℤ f j) × All (λ x. fold int_min (f j) (map f ks) ≤ℤ x) (map f ks))
        → fold int_min (f j) (map f ks) ≤ℤ f k
    at (zero, h, e) b = subst (λ (i : ℕ). fold int_min (f j) (map f ks) ≤ℤ f i) e b.0
    at (suc i, h, e) b =
        All-contains (λ x. fold int_min (f j) (map f ks) ≤ℤ x) (map f ks) (f k) b.1 (mapped ks i (omega (arith, h)) e)
      where
        mapped : (ks : List ℕ) (i : ℕ) → i < length ks → get_or ks i k ≡ k → Contains (map f ks) (f k)
        mapped [] i h e = absurd (omega (arith, h))
        mapped (j ∷ ks) zero h e = (zero, omega arith, ap f e)
        mapped (j ∷ ks) (suc i) h e = let w = mapped ks i (omega (arith, h)) e in (suc w.0, omega (arith, w.1), w.2)

pub least_over_reached : (f : ℕ → ℤ) (ks : List ℕ) → 0 < length ks → (k : ℕ) × Contains ks k × (least_over f ks ≡ f k)
unfolding least_over
least_over_reached f [] h = absurd (omega (arith, h))
least_over_reached f (j ∷ ks) h = at (fold-int_min_reached (f j) (map f ks) (fold int_min (f j) (map f ks)) refl)
  where
    back : (ks : List ℕ) (i : ℕ) (z : ℤ) → i < length (map f ks) → get_or (map f ks) i z ≡ z
        → (k : ℕ) × Contains ks k × (z ≡ f k)
    back [] i z h e = absurd (omega (arith, h))
    back (k ∷ ks) zero z h e = (k, (zero, omega arith, refl), sym e)
    back (k ∷ ks) (suc i) z h e = let w = back ks i z (omega (arith, h)) e in
        (w.0, (suc w.1.0, omega (arith, w.1.1), w.1.2), w.2)

    at : (fold int_min (f j) (map f ks) ≡ f j) ⊎ Contains (map f ks) (fold int_min (f j) (map f ks))
        → (k : ℕ) × Contains (j ∷ ks) k × (fold int_min (f j) (map f ks) ≡ f k)
    at (inl e) = (j, (zero, omega arith, refl), e)
    at (inr (i, h, e)) = let w = back ks i (fold int_min (f j) (map f ks)) h e in
        (w.0, (suc w.1.0, omega (arith, w.1.1), w.1.2), w.2)

-- the least of a sum is at least the sum of the least
pub least_over-sum_below : (n : ℕ) (f : ℕ → ℕ → ℤ) (ks : List ℕ) → 0 < length ks
    → sum_below n (λ i. least_over (f i) ks) ≤ℤ least_over (λ k. sum_below n (λ i. f i k)) ks
least_over-sum_below n f ks h =
    let w = least_over_reached (λ k. sum_below n (λ i. f i k)) ks h in
    rw w.2 (sum_below_mono n (λ i. least_over (f i) ks) (λ i. f i w.0) (λ i l. least_over_le (f i) ks w.0 w.1))

-- ---- places of a list that pass a test

-- each of a list that ascends above a is above a
pub above_all : (a : ℕ) (ks : List ℕ) → AscendAbove a ks → (k : ℕ) → Contains ks k → a < k
above_all a [] up k (i, l, e) = absurd (omega (arith, l))
above_all a (j ∷ ks) up k (zero, l, e) = omega (arith, up.0, e)
above_all a (j ∷ ks) up k (suc i, l, e) = omega (arith, up.0, above_all j ks up.1 k (i, omega (arith, l), e))

-- places that ascend above a and pass are no more than the members behind a that pass
places_count : (p : ℤ → Bool) (xs : List ℤ) (a : ℕ) (ks : List ℕ) → AscendAbove a ks
    → ((k : ℕ) → Contains ks k → (k ≤ a + length xs) × (p (get_or xs (k - suc a) (pos 0)) ≡ true))
    → length ks ≤ count_by p xs
places_count p [] a [] up h = omega arith
places_count p [] a (k ∷ ks) up h = absurd (omega (arith, up.0, (h k (zero, omega arith, refl)).0))
places_count p (x ∷ xs) a [] up h = omega arith
places_count p (x ∷ xs) a (k ∷ ks) up h =
    at (ltb (suc a) k) refl (places_count p xs (suc a) (k ∷ ks)) (places_count p xs (suc a) ks)
  where
    more : count_by p (x ∷ xs) ≡ cond (p x) 1 0 + count_by p xs
    more = sum_by-cons (λ y. cond (p y) 1 0) x xs

    shifted : (j : ℕ) → suc a < j → (j ≤ a + length (x ∷ xs)) × (p (get_or (x ∷ xs) (j - suc a) (pos 0)) ≡ true)
        → (j ≤ suc a + length xs) × (p (get_or xs (j - suc (suc a)) (pos 0)) ≡ true)
    shifted j l w = let e : j - suc a ≡ suc (j - suc (suc a)) = omega arith in (omega (arith, w.0), rw e at w.1)

    at : (b : Bool) → ltb (suc a) k ≡ b
        → (AscendAbove (suc a) (k ∷ ks)
        → ((j : ℕ) → Contains (k ∷ ks) j → (j ≤ suc a + length xs) × (p (get_or xs (j - suc (suc a)) (pos 0)) ≡ true))
        → length (k ∷ ks) ≤ count_by p xs)
        → (AscendAbove (suc a) ks
        → ((j : ℕ) → Contains ks j → (j ≤ suc a + length xs) × (p (get_or xs (j - suc (suc a)) (pos 0)) ≡ true))
        → length ks ≤ count_by p xs) → length (k ∷ ks) ≤ count_by p (x ∷ xs)
    at true e skip take =
        let l : suc a < k = grind (arith, nat_tests) in
        let w = skip (l, up.1) (λ j c. shifted j (above_all (suc a) (k ∷ ks) (l, up.1) j c) (h j c)) in
        omega (arith, w, more)
    at false e skip take =
        let m : k ≡ suc a = grind (arith, nat_tests, up.0) in
        let z : k - suc a ≡ 0 = omega arith in
        let first = rw z at ((h k (zero, omega arith, refl)).1) in
        let up' : AscendAbove (suc a) ks = subst (λ (i : ℕ). AscendAbove i ks) m up.1 in
        let w = take up' (λ j c. shifted j (above_all (suc a) ks up' j c) (h j (later j c))) in
        rw (more, first) (omega (arith, w))
      where
        later : (j : ℕ) → Contains ks j → Contains (k ∷ ks) j
        later j (i, l, e) = (suc i, omega (arith, l), e)

-- each member passes or not
pub count_split : (p : ℤ → Bool) (xs : List ℤ) → count_by p xs + count_by (λ x. not (p x)) xs ≡ length xs
count_split p [] = refl
count_split p (x ∷ xs) =
    at (p x) (count_split p xs) (sum_by-cons (λ y. cond (p y) 1 0) x xs) (sum_by-cons (λ y. cond (not (p y)) 1 0) x xs)
  where
    at : (b : Bool) → count_by p xs + count_by (λ x. not (p x)) xs ≡ length xs
        → count_by p (x ∷ xs) ≡ cond b 1 0 + count_by p xs
        → count_by (λ y. not (p y)) (x ∷ xs) ≡ cond (not b) 1 0 + count_by (λ y. not (p y)) xs
        → count_by p (x ∷ xs) + count_by (λ x. not (p x)) (x ∷ xs) ≡ length (x ∷ xs)
    at true h e d = omega (arith, h, e, d)
    at false h e d = omega (arith, h, e, d)

-- the m-th smallest of n numbers is at least the least of any n - m + 1 of them
pub least_over-le-mth_smallest : (n m : ℕ) (f : ℕ → ℤ) (ks : List ℕ) → 1 ≤ m → m ≤ n → n + 1 ≤ length ks + m
    → AscendAbove 0 ks → ((k : ℕ) → Contains ks k → k ≤ n)
    → least_over f ks ≤ℤ mth_smallest m (list_of n (λ j. f (j + 1)))
least_over-le-mth_smallest n m f ks one few enough up within =
    let xs = list_of n (λ j. f (j + 1)) in
    let q = mth_smallest m xs in
    let len : length xs ≡ n = length-list_of n (λ j. f (j + 1)) in
    let r = IsMthSmallest-mth_smallest m xs one (omega (arith, len)) in
    by_lt_z q (least_over f ks)
    (λ l. absurd (
    let c = places_count (λ x. not (int_le x q)) xs 0 ks up (λ k c. (omega (arith, within k c, len), passes q l k c)) in
    omega (arith, c, count_split (λ x. int_le x q) xs, len, r.upto, enough)))
    (λ l. l)
  where
    passes : (q : ℤ) → q <ℤ least_over f ks → (k : ℕ) → Contains ks k
        → not (int_le (get_or (list_of n (λ j. f (j + 1))) (k - 1) (pos 0)) q) ≡ true
    passes q l k c =
        let some = above_all 0 ks up k c in
        let e : get_or (list_of n (λ j. f (j + 1))) (k - 1) (pos 0) ≡ f (k - 1 + 1) =
        get_or-list_of n (λ j. f (j + 1)) (k - 1) (omega (arith, some, within k c)) in
        let d : k - 1 + 1 ≡ k = omega (arith, some) in
        rw (e, d) (no (int_le (f k) q) refl)
      where
        no : (b : Bool) → int_le (f k) q ≡ b → not b ≡ true
        no true t = absurd (let x = le-true (f k) q t in let y = lt_out q (least_over f ks) l in
            let z = le_out (least_over f ks) (f k) (least_over_le f ks k c) in omega (arith, x, y, z))
        no false t = refl
