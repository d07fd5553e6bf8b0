-- The first of a row of options that is some.
use Rattle.std.proofs.Common.{◌≡◌, ℕ, zero, suc, ◌+◌, ◌-◌, ◌<◌, refl, sym, ◌∙◌, subst, arith, Bool, true, false, Option}
use Rattle.std.proofs.Common.{Some, None, add-one, ltb}
use Rattle.std.proofs.lemmas.Bool.Decides.{nat_tests}
use Rattle.instance_model.specs.Rules.{or_else, first_of}

pub first_of-zero : {A : Type 0} (f : ℕ → Option A) → first_of zero f ≡ None
unfolding first_of
first_of-zero f = refl

pub first_of_pass : {A : Type 0} (n : ℕ) (f : ℕ → Option A) → first_of n f ≡ None → f n ≡ None
    → first_of (n + 1) f ≡ None
unfolding first_of
first_of_pass n f h e = rw (add-one, h) e

pub first_of_found : {A : Type 0} (n : ℕ) (f : ℕ → Option A) (r : A) → first_of n f ≡ None → f n ≡ Some r
    → first_of (n + 1) f ≡ Some r
unfolding first_of
first_of_found n f r h e = rw (add-one, h) e

pub first_of_kept : {A : Type 0} (n m : ℕ) (f : ℕ → Option A) (r : A) → first_of n f ≡ Some r
    → first_of (n + m) f ≡ Some r
unfolding first_of
first_of_kept n zero f r h = let e : n + zero ≡ n = omega arith in rw e h
first_of_kept n (suc m) f r h = let e : n + suc m ≡ suc (n + m) = omega arith in rw (e, first_of_kept n m f r h) refl

-- what is found after none before stays the first
pub first_of_ends : {A : Type 0} (i n : ℕ) (f : ℕ → Option A) (r : A) → i < n → first_of i f ≡ None → f i ≡ Some r
    → first_of n f ≡ Some r
first_of_ends i n f r l h e =
    let d : i + 1 + (n - (i + 1)) ≡ n = omega arith in
    rw d at (first_of_kept (i + 1) (n - (i + 1)) f r (first_of_found i f r h e))

-- where none is found, none of them is some
pub first_of_none : {A : Type 0} (n : ℕ) (f : ℕ → Option A) → first_of n f ≡ None → (i : ℕ) → i < n → f i ≡ None
unfolding first_of
first_of_none {A} zero f h i l = absurd (omega (arith, l))
first_of_none {A} (suc n) f h i l = at (first_of n f) (f n) refl refl h (λ e. first_of_none n f e i)
  where
    at : (o p : Option A) → first_of n f ≡ o → f n ≡ p → or_else o p ≡ None
        → (first_of n f ≡ None → i < n → f i ≡ None) → f i ≡ None
    at (Some x) p e d h ih = absurd (some_none x h)
      where
        some_none : (x : A) → Some x ≡ None → ⊥
        some_none x h = cc
    at None p e d h ih = by_cases (ltb i n) refl
      where
        by_cases : (b : Bool) → ltb i n ≡ b → f i ≡ None
        by_cases true k = ih e (grind (arith, nat_tests))
        by_cases false k = let m : i ≡ n = grind (arith, nat_tests) in subst (λ (j : ℕ). f j ≡ None) (sym m) (d ∙ h)

-- where none of them is some, none is found
pub first_of-all_none : {A : Type 0} (n : ℕ) (f : ℕ → Option A) → ((i : ℕ) → i < n → f i ≡ None) → first_of n f ≡ None
unfolding first_of
first_of-all_none zero f h = refl
first_of-all_none (suc n) f h =
    let ih : first_of n f ≡ None = first_of-all_none n f (λ i l. h i (omega arith)) in
    let e : f n ≡ None = h n (omega arith) in
    rw (ih, e) refl

-- two of which the first that is some is none
pub or_else-none : {A : Type 0} (o p : Option A) → or_else o p ≡ None → (o ≡ None) × (p ≡ None)
or_else-none {A} (Some x) p h = absurd (no x h)
  where
    no : (y : A) → Some y ≡ None → ⊥
    no y e = cc
or_else-none None p h = (refl, h)

pub or_else-both_none : {A : Type 0} (o p : Option A) → o ≡ None → p ≡ None → or_else o p ≡ None
or_else-both_none o p e d = rw (e, d) refl
