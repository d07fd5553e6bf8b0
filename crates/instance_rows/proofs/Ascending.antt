-- Two lists in strict order that have the same members are the same list.
use Rattle.std.proofs.Common.{◌≡◌, ℕ, zero, suc, ◌<◌, ◌⊎◌, inl, inr, List, [], ◌∷◌, ◌++◌, Bool, true, false, cond, refl}
use Rattle.std.proofs.Common.{sym, ◌∙◌, ap, subst, arith}
use Rattle.std.proofs.Math.Nat.{eq-or-lt_of_le}
use Rattle.instance_shape.specs.FileTables.{lists_below}

-- an element is one of a list
abbrev pub Among : {A : Type 0} → List A → A → Type 0
Among [] x = ⊥
Among (y ∷ ys) x = (y ≡ x) ⊎ Among ys x

-- each element stands before all later ones
abbrev pub Rises : {A : Type 0} → (A → A → Type 0) → List A → Type 0
Rises {A} R [] = Unit {0}
Rises {A} R (x ∷ xs) = ((y : A) → Among xs y → R x y) × Rises R xs

pub same_members : {A : Type 0} (R : A → A → Type 0) (xs ys : List A) → ((x y : A) → R x y → R y x → ⊥)
    → Rises R xs → Rises R ys
    → ((z : A) → Among xs z → Among ys z) → ((z : A) → Among ys z → Among xs z) → xs ≡ ys
same_members R [] [] a h k f g = refl
same_members R [] (y ∷ ys) a h k f g = absurd (g y (inl refl))
same_members R (x ∷ xs) [] a h k f g = absurd (f x (inl refl))
same_members {A} R (x ∷ xs) (y ∷ ys) a h k f g =
    let e : x ≡ y = head (f x (inl refl)) (g y (inl refl)) in
    ap (λ q. q ∷ xs) e ∙ ap (λ q. y ∷ q) (same_members R xs ys a h.1 k.1 (λ z m. in_ys z m (f z (inr m)) e)
    (λ z m. in_xs z m (g z (inr m)) e))
  where
    head : (y ≡ x) ⊎ Among ys x → (x ≡ y) ⊎ Among xs y → x ≡ y
    head (inl e) q = sym e
    head (inr m) (inl e) = e
    head (inr m) (inr n) = absurd (a x y (h.0 y n) (k.0 x m))

    twice : (z : A) → R z z → ⊥
    twice z r = a z z r r

    in_ys : (z : A) → Among xs z → (y ≡ z) ⊎ Among ys z → x ≡ y → Among ys z
    in_ys z m (inl i) e = absurd (twice z (subst (λ q. R q z) (e ∙ i) (h.0 z m)))
    in_ys z m (inr n) e = n

    in_xs : (z : A) → Among ys z → (x ≡ z) ⊎ Among xs z → x ≡ y → Among xs z
    in_xs z m (inl i) e = absurd (twice z (subst (λ q. R q z) (sym e ∙ i) (k.0 z m)))
    in_xs z m (inr n) e = n

-- ---- one list behind another

pub among_left : {A : Type 0} (xs ys : List A) (z : A) → Among xs z → Among (xs ++ ys) z
among_left [] ys z m = absurd m
among_left (x ∷ xs) ys z (inl e) = inl e
among_left (x ∷ xs) ys z (inr m) = inr (among_left xs ys z m)

pub among_right : {A : Type 0} (xs ys : List A) (z : A) → Among ys z → Among (xs ++ ys) z
among_right [] ys z m = m
among_right (x ∷ xs) ys z m = inr (among_right xs ys z m)

pub among_either : {A : Type 0} (xs ys : List A) (z : A) → Among (xs ++ ys) z → Among xs z ⊎ Among ys z
among_either [] ys z m = inr m
among_either (x ∷ xs) ys z (inl e) = inl (inl e)
among_either {A} (x ∷ xs) ys z (inr m) = by (among_either xs ys z m)
  where
    by : Among xs z ⊎ Among ys z → ((x ≡ z) ⊎ Among xs z) ⊎ Among ys z
    by (inl m) = inl (inr m)
    by (inr m) = inr m

pub rises_append : {A : Type 0} (R : A → A → Type 0) (xs ys : List A) → Rises R xs → Rises R ys
    → ((x y : A) → Among xs x → Among ys y → R x y) → Rises R (xs ++ ys)
rises_append R [] ys h k b = k
rises_append {A} R (x ∷ xs) ys h k b =
    (λ y m. by y (among_either xs ys y m), rises_append R xs ys h.1 k (λ a c m n. b a c (inr m) n))
  where
    by : (y : A) → Among xs y ⊎ Among ys y → R x y
    by y (inl m) = h.0 y m
    by y (inr m) = b x y (inl refl) m

-- ---- lists f 0, f 1, ..

pub among_lists : {A : Type 0} (n : ℕ) (f : ℕ → List A) (z : A) → Among (lists_below n f) z
    → (k : ℕ) × (k < n) × Among (f k) z
among_lists zero f z m = absurd m
among_lists {A} (suc n) f z m = by (among_either (lists_below n f) (f n) z m) (among_lists n f z)
  where
    by : Among (lists_below n f) z ⊎ Among (f n) z → (Among (lists_below n f) z → (k : ℕ) × (k < n) × Among (f k) z)
        → (k : ℕ) × (k < suc n) × Among (f k) z
    by (inl m) r = let q = r m in (q.0, omega (arith, q.1), q.2)
    by (inr m) r = (n, omega arith, m)

pub lists_among : {A : Type 0} (n k : ℕ) (f : ℕ → List A) (z : A) → k < n → Among (f k) z → Among (lists_below n f) z
lists_among zero k f z l m = absurd (omega arith)
lists_among {A} (suc n) k f z l m = by (eq-or-lt_of_le l) (lists_among n k f z)
  where
    by : (suc k ≡ suc n) ⊎ (suc k < suc n) → (k < n → Among (f k) z → Among (lists_below n f) z)
        → Among (lists_below n f ++ f n) z
    by (inl e) r = let same : k ≡ n = omega arith in
        among_right (lists_below n f) (f n) z (subst (λ i. Among (f i) z) same m)
    by (inr h) r = among_left (lists_below n f) (f n) z (r (omega arith) m)

pub rises_lists : {A : Type 0} (R : A → A → Type 0) (n : ℕ) (f : ℕ → List A) → ((k : ℕ) → k < n → Rises R (f k))
    → ((i k : ℕ) (x y : A) → i < k → k < n → Among (f i) x → Among (f k) y → R x y) → Rises R (lists_below n f)
rises_lists R zero f h b = tt
rises_lists R (suc n) f h b =
    rises_append R (lists_below n f) (f n)
    (rises_lists R n f (λ k l. h k (omega arith)) (λ i k x y l m p q. b i k x y l (omega arith) p q))
    (h n (omega arith))
    (λ x y m p. let q = among_lists n f x m in b q.0 n x y q.1 (omega arith) q.2 p)

-- ---- a choice of a list or none

pub among_choice : {A : Type 0} (b : Bool) (xs : List A) (z : A) → Among (cond b xs []) z → (b ≡ true) × Among xs z
among_choice true xs z m = (refl, m)
among_choice false xs z m = absurd m

pub choice_among : {A : Type 0} (b : Bool) (xs : List A) (z : A) → b ≡ true → Among xs z → Among (cond b xs []) z
choice_among true xs z e m = m
choice_among false xs z e m = cc

pub rises_choice : {A : Type 0} (R : A → A → Type 0) (b : Bool) (xs : List A) → Rises R xs → Rises R (cond b xs [])
rises_choice R true xs h = h
rises_choice R false xs h = tt
