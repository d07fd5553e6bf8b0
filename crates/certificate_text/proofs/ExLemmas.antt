-- Prices of exclusions: a list in strict order without zeros is told by the price of each pair.
use Rattle.std.proofs.Common.{◌≡◌, ◌⊎◌, inl, inr, ℕ, zero, suc, ◌<◌, ◌≤◌, refl, sym, ◌∙◌, ap, subst, arith, Bool, true}
use Rattle.std.proofs.Common.{false, cond, ◌&&◌, List, [], ◌∷◌, ◌++◌, length, get_or, ◌==◌, AllPairs}
use Rattle.std.specs.List.{AllByRecursion}
use Rattle.std.proofs.lemmas.Bool.Decides.{nat_tests}
use Rattle.lagrange_bound.specs.declared.ex_price.ExPrice.{ExPrice}
use Rattle.lagrange_bound.specs.Prices.{ExBefore, ex_of, is_price_of}

-- each is before the next one, and none is 0
abbrev pub AscendFrom : List ExPrice → Type 0
AscendFrom [] = Unit {0}
AscendFrom (x ∷ xs) = AllByRecursion (ExBefore x) xs × AscendFrom xs

abbrev pub IsSome : ExPrice → Type 0
IsSome x = 1 ≤ x.value

tail_pairs : (x : ExPrice) (xs : List ExPrice) → AllPairs ExBefore (x ∷ xs) → AllPairs ExBefore xs
tail_pairs x xs h = λ i j d l m. h (suc i) (suc j) d (omega (arith, l)) (omega (arith, m))

head_pairs : (x : ExPrice) (xs : List ExPrice) → ((j : ℕ) (d : ExPrice) → j < length xs → ExBefore x (get_or xs j d))
    → AllByRecursion (ExBefore x) xs
head_pairs x [] h = tt
head_pairs x (y ∷ ys) h = (h 0 y (omega arith), head_pairs x ys (λ j d l. h (suc j) d (omega (arith, l))))

pub ascend_from : (xs : List ExPrice) → AllPairs ExBefore xs → AscendFrom xs
ascend_from [] h = tt
ascend_from (x ∷ xs) h =
    (head_pairs x xs (λ j d l. h 0 (suc j) d (omega arith) (omega (arith, l))), ascend_from xs (tail_pairs x xs h))

ex_before_trans : (a b c : ExPrice) → ExBefore a b → ExBefore b c → ExBefore a c
ex_before_trans a b c (inl h) (inl k) = inl (omega arith)
ex_before_trans a b c (inl h) (inr (e, k)) = inl (omega arith)
ex_before_trans a b c (inr (e, h)) (inl k) = inl (omega arith)
ex_before_trans a b c (inr (e, h)) (inr (f, k)) = inr (e ∙ f, omega arith)

all_after : (a b : ExPrice) (xs : List ExPrice) → ExBefore a b → AllByRecursion (ExBefore b) xs
    → AllByRecursion (ExBefore a) xs
all_after a b [] h k = tt
all_after a b (x ∷ xs) h k = (ex_before_trans a b x h k.0, all_after a b xs h k.1)

-- ---- the price of a pair
not_price : (a x : ExPrice) → ExBefore a x → is_price_of a.exclusion a.period x ≡ false
not_price a x (inl h) = grind (arith, nat_tests)
not_price a x (inr (e, h)) = grind (arith, nat_tests)

own_price : (x : ExPrice) → is_price_of x.exclusion x.period x ≡ true
own_price x = grind (arith, nat_tests)

ex_of-head : (x : ExPrice) (xs : List ExPrice) → ex_of (x ∷ xs) x.exclusion x.period ≡ x.value
unfolding ex_of
ex_of-head x xs = ap (λ b. cond b x.value (ex_of xs x.exclusion x.period)) (own_price x)

ex_of-none : (e t : ℕ) → ex_of [] e t ≡ 0
unfolding ex_of
ex_of-none e t = refl

-- what is behind all prices has none
pub ex_of-after : (a : ExPrice) (xs : List ExPrice) → AllByRecursion (ExBefore a) xs → ex_of xs a.exclusion a.period ≡ 0
unfolding ex_of
ex_of-after a [] h = refl
ex_of-after a (x ∷ xs) h =
    ap (λ b. cond b x.value (ex_of xs a.exclusion a.period)) (not_price a x h.0) ∙ ex_of-after a xs h.1

-- one of two prices is before the other, or they are of one pair
compare : (a b : ExPrice) → ExBefore a b ⊎ (ExBefore b a ⊎ ((a.exclusion ≡ b.exclusion) × (a.period ≡ b.period)))
compare a b = at (order a.exclusion b.exclusion)
  where
    order : (m n : ℕ) → (m < n) ⊎ ((n < m) ⊎ (m ≡ n))
    order zero zero = inr (inr refl)
    order zero (suc n) = inl (omega arith)
    order (suc m) zero = inr (inl (omega arith))
    order (suc m) (suc n) = one (order m n)
      where
        one : (m < n) ⊎ ((n < m) ⊎ (m ≡ n)) → (suc m < suc n) ⊎ ((suc n < suc m) ⊎ (suc m ≡ suc n))
        one (inl h) = inl (omega arith)
        one (inr (inl h)) = inr (inl (omega arith))
        one (inr (inr h)) = inr (inr (omega arith))

    at : (a.exclusion < b.exclusion) ⊎ ((b.exclusion < a.exclusion) ⊎ (a.exclusion ≡ b.exclusion))
        → ExBefore a b ⊎ (ExBefore b a ⊎ ((a.exclusion ≡ b.exclusion) × (a.period ≡ b.period)))
    at (inl h) = inl (inl h)
    at (inr (inl h)) = inr (inl (inl h))
    at (inr (inr e)) = then (order a.period b.period)
      where
        then : (a.period < b.period) ⊎ ((b.period < a.period) ⊎ (a.period ≡ b.period))
            → ExBefore a b ⊎ (ExBefore b a ⊎ ((a.exclusion ≡ b.exclusion) × (a.period ≡ b.period)))
        then (inl h) = inl (inr (e, h))
        then (inr (inl h)) = inr (inl (inr (sym e, h)))
        then (inr (inr f)) = inr (inr (e, f))

first_of_price : (e t : ℕ) (x : ExPrice) → is_price_of e t x ≡ true → x.exclusion ≡ e
first_of_price e t x h = grind (arith, nat_tests)

second_of_price : (e t : ℕ) (x : ExPrice) → is_price_of e t x ≡ true → x.period ≡ t
second_of_price e t x h = grind (arith, nat_tests)

-- what is behind a price that both lists begin with has the same prices
rest_same : (x : ExPrice) (xs ys : List ExPrice) → AllByRecursion (ExBefore x) xs → AllByRecursion (ExBefore x) ys
    → ((e t : ℕ) → ex_of (x ∷ xs) e t ≡ ex_of (x ∷ ys) e t) → (e t : ℕ) → ex_of xs e t ≡ ex_of ys e t
unfolding ex_of
rest_same x xs ys a b h e t = at (is_price_of e t x) refl (h e t)
  where
    at : (v : Bool) → is_price_of e t x ≡ v → cond v x.value (ex_of xs e t) ≡ cond v x.value (ex_of ys e t)
        → ex_of xs e t ≡ ex_of ys e t
    at false p q = q
    at true p q =
        let f = first_of_price e t x p in
        let g = second_of_price e t x p in
        let own : ex_of xs x.exclusion x.period ≡ ex_of ys x.exclusion x.period =
        ex_of-after x xs a ∙ sym (ex_of-after x ys b) in
        subst (λ i. ex_of xs i t ≡ ex_of ys i t) f (subst (λ i. ex_of xs x.exclusion i ≡ ex_of ys x.exclusion i) g own)

-- two lists in order with the same price of each pair are the same
pub ex_tell : (xs ys : List ExPrice) → AscendFrom xs → AscendFrom ys → AllByRecursion IsSome xs
    → AllByRecursion IsSome ys → ((e t : ℕ) → ex_of xs e t ≡ ex_of ys e t) → xs ≡ ys
ex_tell [] [] a b p q h = refl
ex_tell [] (y ∷ ys) a b p q h = absurd (let e = h y.exclusion y.period ∙ ex_of-head y ys in let s = q.0 in
    let z = ex_of-none y.exclusion y.period in omega (arith, e, s, z))
ex_tell (x ∷ xs) [] a b p q h = absurd (let e = sym (h x.exclusion x.period) ∙ ex_of-head x xs in let s = p.0 in
    let z = ex_of-none x.exclusion x.period in omega (arith, e, s, z))
ex_tell (x ∷ xs) (y ∷ ys) a b p q h = at (compare x y) (λ k. ex_tell xs ys a.1 b.1 p.1 q.1 k)
  where
    at : ExBefore x y ⊎ (ExBefore y x ⊎ ((x.exclusion ≡ y.exclusion) × (x.period ≡ y.period)))
        → (((e t : ℕ) → ex_of xs e t ≡ ex_of ys e t) → xs ≡ ys) → x ∷ xs ≡ y ∷ ys
    at (inl l) ih = absurd
        (let e = sym (ex_of-head x xs) ∙ h x.exclusion x.period ∙ ex_of-after x (y ∷ ys) (l, all_after x y ys l b.0) in
        let s = p.0 in omega (arith, e, s))
    at (inr (inl l)) ih = absurd
        (let e = sym (ex_of-head y ys) ∙ sym (h y.exclusion y.period)
        ∙ ex_of-after y (x ∷ xs) (l, all_after y x xs l a.0) in let s = q.0 in omega (arith, e, s))
    at (inr (inr (e, f))) ih =
        let value : x.value ≡ y.value = sym (ex_of-head x xs) ∙ h x.exclusion x.period
        ∙ ap (λ i. ex_of (y ∷ ys) i x.period) e ∙ ap (λ i. ex_of (y ∷ ys) y.exclusion i) f ∙ ex_of-head y ys in
        let same : x ≡ y = λ j. record { exclusion = e j; period = f j; value = value j } in
        let after : AllByRecursion (ExBefore y) xs = subst (λ (z : ExPrice). AllByRecursion (ExBefore z) xs) same a.0 in
        let prices : (i t : ℕ) → ex_of (y ∷ xs) i t ≡ ex_of (y ∷ ys) i t =
        subst (λ (z : ExPrice). (i t : ℕ) → ex_of (z ∷ xs) i t ≡ ex_of (y ∷ ys) i t) same h in
        ap (λ (z : ExPrice). z ∷ xs) same ∙ ap (λ (zs : List ExPrice). y ∷ zs) (ih (rest_same y xs ys after b.0 prices))

-- no price at all
pub ex_nil : (xs : List ExPrice) → AllByRecursion IsSome xs → ((e t : ℕ) → ex_of xs e t ≡ 0) → xs ≡ []
ex_nil [] p h = refl
ex_nil (x ∷ xs) p h = absurd (let e = sym (h x.exclusion x.period) ∙ ex_of-head x xs in let s = p.0 in
    omega (arith, e, s))

-- ---- one price more, behind all others
ex_of-push : (xs : List ExPrice) (x : ExPrice) (e t : ℕ) → AllByRecursion (λ y. ExBefore y x) xs
    → ex_of (xs ++ x ∷ []) e t ≡ cond (is_price_of e t x) x.value (ex_of xs e t)
unfolding ex_of
ex_of-push [] x e t h = refl
ex_of-push (y ∷ ys) x e t h = at (is_price_of e t y) refl (ex_of-push ys x e t h.1)
  where
    at : (b : Bool) → is_price_of e t y ≡ b → ex_of (ys ++ x ∷ []) e t ≡ cond (is_price_of e t x) x.value (ex_of ys e t)
        → cond b y.value (ex_of (ys ++ x ∷ []) e t) ≡ cond (is_price_of e t x) x.value (cond b y.value (ex_of ys e t))
    at false p ih = ih
    at true p ih =
        let f = first_of_price e t y p in
        let g = second_of_price e t y p in
        let other : is_price_of e t x ≡ false = subst (λ i. is_price_of i t x ≡ false) f
        (subst (λ i. is_price_of y.exclusion i x ≡ false) g (not_price y x h.0)) in
        sym (ap (λ b. cond b x.value y.value) other)

-- the pair of z is that of x, or behind it
abbrev pub NotBefore : ExPrice → ExPrice → Type 0
NotBefore x z = ExBefore x z ⊎ ((x.exclusion ≡ z.exclusion) × (x.period ≡ z.period))

-- where there is no price from a pair on, all prices are before it
pub all_before : (x : ExPrice) (xs : List ExPrice) → AllByRecursion IsSome xs
    → ((z : ExPrice) → NotBefore x z → ex_of xs z.exclusion z.period ≡ 0) → AllByRecursion (λ y. ExBefore y x) xs
unfolding ex_of
all_before x [] p h = tt
all_before x (y ∷ ys) p h =
    (head (compare y x), all_before x ys p.1 (λ z n. rest z (is_price_of z.exclusion z.period y) refl (h z n)))
  where
    head : ExBefore y x ⊎ (ExBefore x y ⊎ ((y.exclusion ≡ x.exclusion) × (y.period ≡ x.period))) → ExBefore y x
    head (inl l) = l
    head (inr (inl l)) = absurd (let e = sym (ex_of-head y ys) ∙ h y (inl l) in let s = p.0 in omega (arith, e, s))
    head (inr (inr (e, f))) = absurd (let g = sym (ex_of-head y ys) ∙ h y (inr (sym e, sym f)) in let s = p.0 in
        omega (arith, g, s))

    rest : (z : ExPrice) (b : Bool) → is_price_of z.exclusion z.period y ≡ b
        → cond b y.value (ex_of ys z.exclusion z.period) ≡ 0 → ex_of ys z.exclusion z.period ≡ 0
    rest z false q e = e
    rest z true q e = absurd (let s = p.0 in omega (arith, e, s))

pub ascend_push : (xs : List ExPrice) (x : ExPrice) → AscendFrom xs → AllByRecursion (λ y. ExBefore y x) xs
    → AscendFrom (xs ++ x ∷ [])
ascend_push [] x a b = (tt, tt)
ascend_push (y ∷ ys) x a b = (each ys a.0, ascend_push ys x a.1 b.1)
  where
    each : (zs : List ExPrice) → AllByRecursion (ExBefore y) zs → AllByRecursion (ExBefore y) (zs ++ x ∷ [])
    each [] h = (b.0, tt)
    each (z ∷ zs) h = (h.0, each zs h.1)

same_pair : (d u e t v : ℕ) → ((d == e) && (u == t)) ≡ is_price_of d u (record { exclusion = e; period = t; value = v })
same_pair d u e t v = ap (λ a. a && (u == t)) (turned d e) ∙ ap (λ b. (e == d) && b) (turned u t)
  where
    turned : (m n : ℕ) → (m == n) ≡ (n == m)
    turned m n = grind (arith, nat_tests)

-- a list that has one price more than another, behind all of it
pub ex_push : (xs ys : List ExPrice) (e t v : ℕ) → AllPairs ExBefore xs → AllPairs ExBefore ys
    → AllByRecursion IsSome xs → AllByRecursion IsSome ys → 1 ≤ v
    → ((z : ExPrice) → NotBefore (record { exclusion = e; period = t; value = v }) z
    → ex_of xs z.exclusion z.period ≡ 0) → ((d u : ℕ) → ex_of ys d u ≡ cond ((d == e) && (u == t)) v (ex_of xs d u))
    → ys ≡ xs ++ (record { exclusion = e; period = t; value = v }) ∷ []
ex_push xs ys e t v a b p q some none set =
    let x : ExPrice = record { exclusion = e; period = t; value = v } in
    let before = all_before x xs p none in
    ex_tell ys (xs ++ x ∷ []) (ascend_from ys b) (ascend_push xs x (ascend_from xs a) before) q (each xs p)
    (λ d u. set d u ∙ ap (λ c. cond c v (ex_of xs d u)) (same_pair d u e t v) ∙ sym (ex_of-push xs x d u before))
  where
    each : (zs : List ExPrice) → AllByRecursion IsSome zs
        → AllByRecursion IsSome (zs ++ (record { exclusion = e; period = t; value = v }) ∷ [])
    each [] h = (some, tt)
    each (z ∷ zs) h = (h.0, each zs h.1)
