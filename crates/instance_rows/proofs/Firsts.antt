-- The first fault among some: by a list, by numbers, and of rows in place of entries.
use Rattle.std.proofs.Common.{◌≡◌, ℕ, zero, suc, ◌+◌, ◌<◌, ◌⊎◌, inl, inr, List, [], ◌∷◌, ◌++◌, map, length, Option}
use Rattle.std.proofs.Common.{Some, None, refl, sym, ◌∙◌, ap, arith}
use Rattle.std.specs.Prelude.{slice_index_or}
use Rattle.std.proofs.Math.Nat.{eq-or-lt_of_le}
use Rattle.json_grammar.specs.Tree.{Tree}
use Rattle.instance_model.specs.Rules.{first_of, or_else}
use Rattle.instance_shape.specs.LookUp.{Entry}
use Rattle.instance_shape.specs.CrossFaults.{CrossFault, first_in}

pub or_else_assoc : {A : Type 0} (a b c : Option A) → or_else (or_else a b) c ≡ or_else a (or_else b c)
or_else_assoc (Some x) b c = refl
or_else_assoc None b c = refl

pub or_else_none : {A : Type 0} (a b : Option A) → a ≡ None → or_else a b ≡ b
or_else_none None b h = refl
or_else_none (Some x) b h = cc

pub or_else_some : {A : Type 0} (a b : Option A) (x : A) → a ≡ Some x → or_else a b ≡ Some x
or_else_some None b x h = cc
or_else_some (Some y) b x h = h

pub or_else_both : {A : Type 0} (a b : Option A) → or_else a b ≡ None → (a ≡ None) × (b ≡ None)
or_else_both None b h = (refl, h)
or_else_both (Some y) b h = cc

-- ---- by numbers

pub first_same : {A : Type 0} (n : ℕ) (f g : ℕ → Option A) → ((k : ℕ) → k < n → f k ≡ g k) → first_of n f ≡ first_of n g
unfolding first_of
first_same zero f g h = refl
first_same (suc n) f g h = ap (λ o. or_else o (f n)) (first_same n f g (λ k l. h k (omega arith)))
    ∙ ap (or_else (first_of n g)) (h n (omega arith))

first_front : {A : Type 0} (n : ℕ) (f : ℕ → Option A) → first_of (suc n) f ≡ or_else (f 0) (first_of n (λ k. f (suc k)))
unfolding first_of
first_front {A} zero f = by (f 0)
  where
    by : (o : Option A) → o ≡ or_else o None
    by None = refl
    by (Some x) = refl
first_front (suc n) f =
    ap (λ o. or_else o (f (suc n))) (first_front n f) ∙ or_else_assoc (f 0) (first_of n (λ k. f (suc k))) (f (suc n))

-- where nothing is found, no number has anything
pub first_none : {A : Type 0} (n : ℕ) (f : ℕ → Option A) → first_of n f ≡ None → (k : ℕ) → k < n → f k ≡ None
unfolding first_of
first_none zero f h k l = absurd (omega arith)
first_none (suc n) f h k l = by (eq-or-lt_of_le l) (first_none n f (or_else_both (first_of n f) (f n) h).0 k)
  where
    by : (suc k ≡ suc n) ⊎ (suc k < suc n) → (k < n → f k ≡ None) → f k ≡ None
    by (inl e) r = let same : k ≡ n = omega arith in ap f same ∙ (or_else_both (first_of n f) (f n) h).1
    by (inr m) r = r (omega arith)

-- one number more, that has nothing
pub first_more : {A : Type 0} (n : ℕ) (f : ℕ → Option A) → first_of n f ≡ None → f n ≡ None → first_of (n + 1) f ≡ None
unfolding first_of
first_more n f h k = let e : n + 1 ≡ suc n = omega arith in
    ap (λ m. first_of m f) e ∙ or_else_none (first_of n f) (f n) h ∙ k

-- the first number that has something
pub first_found : {A : Type 0} (n k : ℕ) (f : ℕ → Option A) (x : A) → k < n → first_of k f ≡ None → f k ≡ Some x
    → first_of n f ≡ Some x
unfolding first_of
first_found zero k f x l h e = absurd (omega arith)
first_found (suc n) k f x l h e = by (eq-or-lt_of_le l) (first_found n k f x)
  where
    by : (suc k ≡ suc n) ⊎ (suc k < suc n) → (k < n → first_of k f ≡ None → f k ≡ Some x → first_of n f ≡ Some x)
        → or_else (first_of n f) (f n) ≡ Some x
    by (inl i) r = let same : k ≡ n = omega arith in
        or_else_none (first_of n f) (f n) (ap (λ m. first_of m f) (sym same) ∙ h) ∙ ap f (sym same) ∙ e
    by (inr m) r = or_else_some (first_of n f) (f n) x (r (omega arith) h e)

-- ---- by a list

pub first_in-map : {A B : Type 0} (f : B → Option CrossFault) (g : A → B) (xs : List A)
    → first_in f (map g xs) ≡ first_in (λ x. f (g x)) xs
first_in-map f g [] = refl
first_in-map f g (x ∷ xs) = ap (or_else (f (g x))) (first_in-map f g xs)

pub first_in-append : {A : Type 0} (f : A → Option CrossFault) (xs ys : List A)
    → first_in f (xs ++ ys) ≡ or_else (first_in f xs) (first_in f ys)
first_in-append f [] ys = refl
first_in-append f (x ∷ xs) ys =
    ap (or_else (f x)) (first_in-append f xs ys) ∙ sym (or_else_assoc (f x) (first_in f xs) (first_in f ys))

-- the first fault of entries is that of their rows, by number
pub first_rows : {B : Type 0} (fault : List ℕ → B → Option CrossFault) (row : Tree → B) (es : List Entry) (none : B)
    → first_in (λ e. fault e.key (row e.value)) es ≡ first_of (length (map (λ e. row e.value) es)) (λ i. fault
    (slice_index_or (map (λ e. e.key) es) i []) (slice_index_or (map (λ e. row e.value) es) i none))
unfolding first_of
first_rows fault row [] none = refl
first_rows fault row (e ∷ es) none =
    ap (or_else (fault e.key (row e.value))) (first_rows fault row es none)
    ∙ sym (first_front (length (map (λ e. row e.value) es))
    (λ i. fault (slice_index_or (map (λ e. e.key) (e ∷ es)) i [])
    (slice_index_or (map (λ e. row e.value) (e ∷ es)) i none)))
