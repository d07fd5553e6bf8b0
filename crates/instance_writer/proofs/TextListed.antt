-- Lists one after another: of single elements, of slices of a list, and of what tests take from a list in order.
use Rattle.std.proofs.Common.{◌≡◌, ◌≢◌, ℕ, zero, suc, ◌+◌, ◌-◌, ◌<◌, ◌≤◌, Bool, true, false, cond, List, [], ◌∷◌}
use Rattle.std.proofs.Common.{◌++◌, ◌&&◌, length, get_or, take, drop, refl, sym, ◌∙◌, ap, subst, arith, ℤ, pos, inl}
use Rattle.std.proofs.Common.{inr}
use Rattle.std.proofs.Common.{length-append}
use Rattle.std.specs.Prelude.{All, AllPairs, ◌==◌, ◌⊎◌}
use Rattle.std.specs.List.{filter}
use Rattle.std.proofs.lemmas.Bool.{cases_lt, eq-eqb, ne_eqb}
use Rattle.std.proofs.lemmas.List.{get_or_append_left, get_or-append_right, drop-drop}
use Rattle.std.proofs.lemmas.List.{length-take-le, length-drop, get_or-take, get_or-drop}
use Rattle.std.proofs.lemmas.List.Elements.{All-head, All-tail, All-weaker}
use Rattle.fixed_num.specs.Sums.{list_of}
use Rattle.fixed_num.proofs.SumLemmas.{list_of-from}
use Rattle.instance_model.specs.Naturals.{count_sum}
use Rattle.instance_shape.specs.FileTables.{lists_below}

-- ---- the same lists, and lists of one element each

pub lists_below_same : {A : Type 0} (n : ℕ) (f g : ℕ → List A) → ((k : ℕ) → k < n → f k ≡ g k)
    → lists_below n f ≡ lists_below n g
lists_below_same zero f g h = refl
lists_below_same (suc n) f g h =
    ap (λ xs. xs ++ f n) (lists_below_same n f g (λ k l. h k (omega arith)))
    ∙ ap (λ ys. lists_below n g ++ ys) (h n (omega arith))

pub length-singles : {A : Type 0} (n : ℕ) (f : ℕ → A) → length (lists_below n (λ k. f k ∷ [])) ≡ n
length-singles zero f = refl
length-singles (suc n) f =
    omega (arith, length-append (lists_below n (λ k. f k ∷ [])) (f n ∷ []), length-singles n f)

pub get_or-singles : {A : Type 0} (n k : ℕ) (f : ℕ → A) (d : A) → k < n → get_or (lists_below n (λ j. f j ∷ [])) k d
    ≡ f k
get_or-singles zero k f d l = absurd (omega arith)
get_or-singles (suc n) k f d l = by (cases_lt k n) (λ m. get_or-singles n k f d m)
  where
    by : (k < n) ⊎ (n ≤ k) → (k < n → get_or (lists_below n (λ j. f j ∷ [])) k d ≡ f k)
        → get_or (lists_below n (λ j. f j ∷ []) ++ f n ∷ []) k d ≡ f k
    by (inl m) r =
        get_or_append_left (lists_below n (λ j. f j ∷ [])) (f n ∷ []) d k (omega (arith, length-singles n f))
        ∙ r m
    by (inr m) r =
        let same : k ≡ n = omega arith in
        let first : k - n ≡ 0 = omega arith in
        get_or-append_right (lists_below n (λ j. f j ∷ [])) (f n ∷ []) n k d (length-singles n f) m
        ∙ ap (λ i. get_or (f n ∷ []) i d) first ∙ ap f (sym same)

-- ---- slices

slices_join : {A : Type 0} (xs : List A) (a n m : ℕ) → take n (drop a xs) ++ take m (drop (a + n) xs)
    ≡ take (n + m) (drop a xs)
slices_join xs a n m = ap (λ ys. take n (drop a xs) ++ take m ys) (sym (drop-drop n a xs)) ∙ front (drop a xs) n m
  where
    front : {A : Type 0} (ys : List A) (n m : ℕ) → take n ys ++ take m (drop n ys) ≡ take (n + m) ys
    front ys zero m = let e : 0 + m ≡ m = omega arith in ap (λ k. take k ys) (sym e)
    front [] (suc n) zero = let e : suc n + 0 ≡ suc n = omega arith in ap (λ k. take k []) (sym e)
    front [] (suc n) (suc m) = let e : suc n + suc m ≡ suc (suc n + m) = omega arith in ap (λ k. take k []) (sym e)
    front (y ∷ ys) (suc n) m = let e : suc n + m ≡ suc (n + m) = omega arith in
        ap (λ zs. y ∷ zs) (front ys n m) ∙ ap (λ k. take k (y ∷ ys)) (sym e)

-- lists that are slices of one list, each beginning where the one before it ends
pub slices : {A : Type 0} (xs : List A) (a n : ℕ) (size : ℕ → ℕ) (f : ℕ → List A)
    → ((k : ℕ) → k < n → f k ≡ take (size k) (drop (a + count_sum k size) xs))
    → lists_below n f ≡ take (count_sum n size) (drop a xs)
unfolding count_sum
slices xs a zero size f h = refl
slices xs a (suc n) size f h =
    ap (λ ys. ys ++ f n) (slices xs a n size f (λ k l. h k (omega arith)))
    ∙ ap (λ ys. take (count_sum n size) (drop a xs) ++ ys) (h n (omega arith))
    ∙ slices_join xs a (count_sum n size) (size n)

-- the elements of a slice, by their places
pub slice_of : (xs : List ℤ) (a n : ℕ) (f : ℕ → ℤ) → a + n ≤ length xs
    → ((k : ℕ) → k < n → f k ≡ get_or xs (a + k) (pos 0)) → list_of n f ≡ take n (drop a xs)
slice_of xs a n f l h =
    let long : length (take n (drop a xs)) ≡ n = length-take-le n (drop a xs) (omega (arith, length-drop a xs)) in
    sym (list_of-from n f (take n (drop a xs)) long
    (λ k m. get_or-take n (drop a xs) k (pos 0) m ∙ get_or-drop a xs k (pos 0) ∙ sym (h k m)))

-- the same of elements that are listed one by one
pub singles_of : {A : Type 0} (xs : List A) (a n : ℕ) (f : ℕ → A) (d : A) → a + n ≤ length xs
    → ((k : ℕ) → k < n → f k ≡ get_or xs (a + k) d) → lists_below n (λ k. f k ∷ []) ≡ take n (drop a xs)
singles_of xs a zero f d l h = refl
singles_of {A} xs a (suc n) f d l h =
    let more : suc n ≡ n + 1 = omega arith in
    ap (λ ys. ys ++ f n ∷ []) (singles_of xs a n f d (omega arith) (λ k m. h k (omega arith)))
    ∙ ap (λ y. take n (drop a xs) ++ y ∷ []) (h n (omega arith))
    ∙ ap (λ ys. take n (drop a xs) ++ ys) (sym (one (a + n) xs (omega arith)))
    ∙ slices_join xs a n 1 ∙ ap (λ k. take k (drop a xs)) (sym more)
  where
    one : (p : ℕ) (ys : List A) → p < length ys → take 1 (drop p ys) ≡ get_or ys p d ∷ []
    one p [] l = absurd (omega arith)
    one zero (y ∷ ys) l = refl
    one (suc p) (y ∷ ys) l = one p ys (omega arith)

-- ---- what tests take from a list in order

pub filter_none : {A : Type 0} (p : A → Bool) (xs : List A) → All (λ x. p x ≡ false) xs → filter p xs ≡ []
filter_none p [] h = refl
filter_none p (x ∷ xs) h = rw (All-head (λ x. p x ≡ false) x xs h)
    (filter_none p xs (All-tail (λ x. p x ≡ false) x xs h))

pub filter_same : {A : Type 0} (p q : A → Bool) (xs : List A) → All (λ x. p x ≡ q x) xs → filter p xs ≡ filter q xs
filter_same p q [] h = refl
filter_same p q (x ∷ xs) h =
    let e : p x ≡ q x = All-head (λ x. p x ≡ q x) x xs h in
    ap (λ b. cond b (x ∷ filter p xs) (filter p xs)) e
    ∙ ap (λ ys. cond (q x) (x ∷ ys) ys) (filter_same p q xs (All-tail (λ x. p x ≡ q x) x xs h))

pub filter_twice : {A : Type 0} (p q : A → Bool) (xs : List A) → filter p (filter q xs) ≡ filter (λ x. q x && p x) xs
filter_twice p q [] = refl
filter_twice p q (x ∷ xs) = by (q x) (filter_twice p q xs)
  where
    by : (b : Bool) → filter p (filter q xs) ≡ filter (λ x. q x && p x) xs
        → filter p (cond b (x ∷ filter q xs) (filter q xs))
        ≡ cond (b && p x) (x ∷ filter (λ x. q x && p x) xs) (filter (λ x. q x && p x) xs)
    by true e = ap (λ ys. cond (p x) (x ∷ ys) ys) e
    by false e = e

pub no_lists : {A : Type 0} (n : ℕ) (f : ℕ → List A) → ((k : ℕ) → k < n → f k ≡ []) → lists_below n f ≡ []
no_lists zero f h = refl
no_lists (suc n) f h =
    ap (λ xs. xs ++ f n) (no_lists n f (λ k l. h k (omega arith))) ∙ h n (omega arith)

put_first : {A : Type 0} (n a : ℕ) (x : A) (f g : ℕ → List A) → a < n → f a ≡ x ∷ g a → ((k : ℕ) → k ≢ a → f k ≡ g k)
    → ((k : ℕ) → k < a → g k ≡ []) → lists_below n f ≡ x ∷ lists_below n g
put_first zero a x f g l here other before = absurd (omega arith)
put_first (suc n) a x f g l here other before =
    by (cases_lt a n) (λ m. put_first n a x f g m here other before)
  where
    by : (a < n) ⊎ (n ≤ a) → (a < n → lists_below n f ≡ x ∷ lists_below n g)
        → lists_below n f ++ f n ≡ x ∷ (lists_below n g ++ g n)
    by (inl m) r =
        ap (λ xs. xs ++ f n) (r m)
        ∙ ap (λ ys. x ∷ (lists_below n g ++ ys)) (other n (λ e. omega (arith, e)))
    by (inr m) r =
        let same : a ≡ n = omega arith in
        let last : f n ≡ x ∷ g n = subst (λ k. f k ≡ x ∷ g k) same here in
        ap (λ xs. xs ++ f n)
        (no_lists n f (λ k l. other k (λ e. omega (arith, e)) ∙ before k (omega arith)))
        ∙ last ∙ ap (λ ys. x ∷ (ys ++ g n)) (sym (no_lists n g (λ k l. before k (omega arith))))

by_keys : {A : Type 0} (key : A → ℕ) (n : ℕ) (xs : List A) → All (λ x. key x < n) xs
    → AllPairs (λ x y. key x ≤ key y) xs → lists_below n (λ k. filter (λ x. key x == k) xs) ≡ xs
by_keys key n [] small order = no_lists n (λ k. []) (λ k l. refl)
by_keys key n (x ∷ xs) small order =
    put_first n (key x) x (λ k. filter (λ y. key y == k) (x ∷ xs)) (λ k. filter (λ y. key y == k) xs)
    (All-head (λ x. key x < n) x xs small)
    (ap (λ b. cond b (x ∷ filter (λ y. key y == key x) xs) (filter (λ y. key y == key x) xs))
    (eq-eqb (key x) (key x) refl))
    (λ k e. ap (λ b. cond b (x ∷ filter (λ y. key y == k) xs) (filter (λ y. key y == k) xs))
    (ne_eqb (key x) k (λ q. e (sym q))))
    (λ k l. filter_none (λ y. key y == k) xs
    (λ i d m. let above : key x ≤ key (get_or xs i d) = order 0 (suc i) d (omega arith) (omega arith) in
    ne_eqb (key (get_or xs i d)) k (λ e. omega (arith, e))))
    ∙ ap (λ ys. x ∷ ys) (by_keys key n xs (All-tail (λ x. key x < n) x xs small)
    (λ i j d l m. order (suc i) (suc j) d (omega arith) (omega arith)))

-- lists of what passes test 0, 1, .. of elements in the order of their keys, where test k passes those of key k
pub by_tests : {A : Type 0} (test : ℕ → A → Bool) (key : A → ℕ) (n : ℕ) (xs : List A) → All (λ x. key x < n) xs
    → AllPairs (λ x y. key x ≤ key y) xs → All (λ x. (k : ℕ) → test k x ≡ (key x == k)) xs
    → lists_below n (λ k. filter (test k) xs) ≡ xs
by_tests test key n xs small order tests =
    lists_below_same n (λ k. filter (test k) xs) (λ k. filter (λ x. key x == k) xs)
    (λ k l. filter_same (test k) (λ x. key x == k) xs
    (All-weaker (λ x. (k : ℕ) → test k x ≡ (key x == k)) (λ x. test k x ≡ (key x == k)) (λ x h. h k) xs tests))
    ∙ by_keys key n xs small order
