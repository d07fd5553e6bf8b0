-- Sums of whole numbers.
use Rattle.std.proofs.Common.{◌*ℤ◌, ◌+ℤ◌, ◌-ℤ◌, ◌≡◌, ◌≢◌, ℕ, zero, suc, ◌+◌, ◌*◌, ◌<◌, ◌≤◌, refl, sym, ◌∙◌, arith, ℤ}
use Rattle.std.proofs.Common.{pos, ◌≤ℤ◌, ap, unsigned_abs, List, [], ◌∷◌, ◌++◌, add-one, length, take, drop, get_or}
use Rattle.std.proofs.Common.{set, Bool, true, false, eqb, to_z, of_z, to_z-of_z, ◌^◌}
use Rattle.std.specs.Int.{w128}
use Rattle.std.proofs.Math.Seq.{take-append_seam}
use Rattle.std.proofs.lemmas.Bool.Decides.{nat_tests}
use Rattle.std.proofs.lemmas.List.{take_more, ext_get_or, get_or-set_same, get_or-set_other}
use Rattle.std.proofs.lemmas.Int.{fits_signed_from_abs}
use Rattle.std.proofs.lemmas.List.FromFn.{map-range_with_len_more, length-map-range_with_len, get_or-map-range_with_len}
use borrow.Author.Differences.{up, down, same_in, sum_is_lem, product_is, abs_is}
use Rattle.fixed_num.specs.Sums.{sum_below, total, list_of}
use Rattle.fixed_num.proofs.SignedLemmas.{signed_arith, unsigned_abs-parts}

pub sum_below-zero : (f : ℕ → ℤ) → sum_below zero f ≡ pos 0
unfolding sum_below
sum_below-zero f = refl

pub sum_below-suc : (n : ℕ) (f : ℕ → ℤ) → sum_below (suc n) f ≡ sum_below n f +ℤ f n
unfolding sum_below
sum_below-suc n f = refl

pub sum_below_more : (n : ℕ) (f : ℕ → ℤ) → sum_below (n + 1) f ≡ sum_below n f +ℤ f n
sum_below_more n f = rw add-one (sum_below-suc n f)

-- term by term
pub sum_below_same : (n : ℕ) (f g : ℕ → ℤ) → ((k : ℕ) → k < n → f k ≡ g k) → sum_below n f ≡ sum_below n g
sum_below_same zero f g h = sum_below-zero f ∙ sym (sum_below-zero g)
sum_below_same (suc n) f g h =
    let ih : sum_below n f ≡ sum_below n g = sum_below_same n f g (λ k l. h k (omega arith)) in
    let e : f n ≡ g n = h n (omega arith) in
    sum_below-suc n f ∙ ap (λ x. x +ℤ f n) ih ∙ ap (λ x. sum_below n g +ℤ x) e ∙ sym (sum_below-suc n g)

pub sum_below_mono : (n : ℕ) (f g : ℕ → ℤ) → ((k : ℕ) → k < n → f k ≤ℤ g k) → sum_below n f ≤ℤ sum_below n g
sum_below_mono zero f g h = rw (sum_below-zero f, sum_below-zero g) (omega (arith, signed_arith))
sum_below_mono (suc n) f g h =
    let ih : sum_below n f ≤ℤ sum_below n g = sum_below_mono n f g (λ k l. h k (omega arith)) in
    let e : f n ≤ℤ g n = h n (omega arith) in
    rw (sum_below-suc n f, sum_below-suc n g) (omega (arith, signed_arith))

pub sum_below-add : (n : ℕ) (f g : ℕ → ℤ) → sum_below n (λ k. f k +ℤ g k) ≡ sum_below n f +ℤ sum_below n g
sum_below-add zero f g = rw (sum_below-zero f, sum_below-zero g, sum_below-zero (λ k. f k +ℤ g k)) refl
sum_below-add (suc n) f g =
    let ih = sum_below-add n f g in
    rw (sum_below-suc n f, sum_below-suc n g, sum_below-suc n (λ k. f k +ℤ g k), ih) (omega (arith, signed_arith))

-- a product of a sum
pub *ℤ-+ℤ : (c a b : ℤ) → c *ℤ (a +ℤ b) ≡ c *ℤ a +ℤ c *ℤ b
*ℤ-+ℤ c a b =
    let s = sum_is_lem a b in
    let u = ap (λ (t : ℕ). up c * t) s in
    let d = ap (λ (t : ℕ). down c * t) s in
    same_in (c *ℤ (a +ℤ b)) (c *ℤ a +ℤ c *ℤ b)
    (omega (arith, u, d, product_is c (a +ℤ b), product_is c a, product_is c b, sum_is_lem (c *ℤ a) (c *ℤ b)))

pub sum_below-scale : (n : ℕ) (c : ℤ) (f : ℕ → ℤ) → sum_below n (λ k. c *ℤ f k) ≡ c *ℤ sum_below n f
sum_below-scale zero c f = rw (sum_below-zero f, sum_below-zero (λ k. c *ℤ f k)) (omega (arith, signed_arith))
sum_below-scale (suc n) c f =
    let ih = sum_below-scale n c f in
    rw (sum_below-suc n f, sum_below-suc n (λ k. c *ℤ f k), ih) (sym (*ℤ-+ℤ c (sum_below n f) (f n)))

pub sum_below-none : (n : ℕ) → sum_below n (λ k. pos 0) ≡ pos 0
sum_below-none zero = sum_below-zero (λ k. pos 0)
sum_below-none (suc n) = rw (sum_below-suc n (λ k. pos 0), sum_below-none n) refl

-- the order of two sums is free
pub sum_below-swap : (m n : ℕ) (f : ℕ → ℕ → ℤ)
    → sum_below m (λ i. sum_below n (λ j. f i j)) ≡ sum_below n (λ j. sum_below m (λ i. f i j))
sum_below-swap zero n f = sum_below-zero (λ i. sum_below n (λ j. f i j)) ∙ sym (sum_below-none n)
    ∙ sum_below_same n (λ j. pos 0) (λ j. sum_below zero (λ i. f i j)) (λ k l. sym (sum_below-zero (λ i. f i k)))
sum_below-swap (suc m) n f =
    sum_below-suc m (λ i. sum_below n (λ j. f i j)) ∙ ap (λ x. x +ℤ sum_below n (λ j. f m j)) (sum_below-swap m n f)
    ∙ sym (sum_below-add n (λ j. sum_below m (λ i. f i j)) (λ j. f m j))
    ∙ sum_below_same n (λ j. sum_below m (λ i. f i j) +ℤ f m j) (λ j. sum_below (suc m) (λ i. f i j))
    (λ k l. sym (sum_below-suc m (λ i. f i k)))

-- how large a sum can be
pub sum_below-within : (n b : ℕ) (f : ℕ → ℤ) → ((k : ℕ) → k < n → unsigned_abs (f k) ≤ b)
    → unsigned_abs (sum_below n f) ≤ n * b
sum_below-within zero b f h = rw (sum_below-zero f) (omega arith)
sum_below-within (suc n) b f h =
    let ih : unsigned_abs (sum_below n f) ≤ n * b = sum_below-within n b f (λ k l. h k (omega arith)) in
    let e : unsigned_abs (f n) ≤ b = h n (omega arith) in
    rw (sum_below-suc n f)
    (omega (arith, unsigned_abs-parts (sum_below n f), unsigned_abs-parts (f n), abs_of_sum (sum_below n f) (f n)))
  where
    abs_of_sum : (a b : ℤ) → unsigned_abs (a +ℤ b) ≤ unsigned_abs a + unsigned_abs b
    abs_of_sum a b = omega (arith, abs_is (a +ℤ b), sum_is_lem a b, unsigned_abs-parts a, unsigned_abs-parts b)

-- a list of the terms has the same sum
pub total-append : (xs ys : List ℤ) → total (xs ++ ys) ≡ total xs +ℤ total ys
unfolding total
total-append [] ys = omega (arith, signed_arith)
total-append (x ∷ xs) ys = rw (total-append xs ys) (omega (arith, signed_arith))

pub total_push : (xs : List ℤ) (x : ℤ) → total (xs ++ x ∷ []) ≡ total xs +ℤ x
unfolding total
total_push [] x = omega (arith, signed_arith)
total_push (y ∷ xs) x = rw (total_push xs x) (omega (arith, signed_arith))

pub total-list_of : (n : ℕ) (f : ℕ → ℤ) → total (list_of n f) ≡ sum_below n f
unfolding total sum_below
total-list_of zero f = refl
total-list_of (suc n) f =
    let e = rw add-one at (map-range_with_len_more f 0 n n (omega arith)) in
    ap total e ∙ total_push (list_of n f) (f n) ∙ ap (λ x. x +ℤ f n) (total-list_of n f)

pub abs-sum : (a b : ℤ) → unsigned_abs (a +ℤ b) ≤ unsigned_abs a + unsigned_abs b
abs-sum a b = omega (arith, abs_is (a +ℤ b), sum_is_lem a b, unsigned_abs-parts a, unsigned_abs-parts b)

-- ---- a loop's step, as the code has it: r is added to the sum so far
pub added : (s r : ℤ) (a b : ℕ) → unsigned_abs s ≤ a → unsigned_abs r ≤ b → a + b < 2 ^ 127
    → to_z w128 (of_z w128 (s +ℤ to_z w128 (of_z w128 r))) ≡ s +ℤ r
added s r a b h k l =
    let fr : to_z w128 (of_z w128 r) ≡ r = to_z-of_z (fits_signed_from_abs w128 r (omega (arith, k))) in
    rw fr (to_z-of_z (fits_signed_from_abs w128 (s +ℤ r) (omega (arith, abs-sum s r, h, k))))

pub sum_step : (s r : ℤ) (i b : ℕ) (f : ℕ → ℤ) → s ≡ sum_below i f → unsigned_abs s ≤ i * b → r ≡ f i
    → unsigned_abs r ≤ b → (i + 1) * b < 2 ^ 127
    → to_z w128 (of_z w128 (s +ℤ to_z w128 (of_z w128 r))) ≡ sum_below (i + 1) f
sum_step s r i b f e h d k l = added s r (i * b) b h k (omega (arith, l)) ∙ ap (λ x. x +ℤ r) e
    ∙ ap (λ x. sum_below i f +ℤ x) d ∙ sym (sum_below_more i f)

pub sum_step_small : (s r : ℤ) (i b : ℕ) → unsigned_abs s ≤ i * b → unsigned_abs r ≤ b → (i + 1) * b < 2 ^ 127
    → unsigned_abs (to_z w128 (of_z w128 (s +ℤ to_z w128 (of_z w128 r)))) ≤ (i + 1) * b
sum_step_small s r i b h k l = rw (added s r (i * b) b h k (omega (arith, l))) (omega (arith, abs-sum s r, h, k))

pub total-none : total [] ≡ pos 0
unfolding total
total-none = refl

pub total_more : (xs : List ℤ) (i : ℕ) (d : ℤ) → i < length xs
    → total (take (i + 1) xs) ≡ total (take i xs) +ℤ get_or xs i d
total_more xs i d h = ap total (take_more xs i d h) ∙ total_push (take i xs) (get_or xs i d)

pub list_of_more : (n : ℕ) (f : ℕ → ℤ) → list_of (n + 1) f ≡ list_of n f ++ f n ∷ []
list_of_more n f = map-range_with_len_more f 0 n n (omega arith)

-- what a sum over the items of a list is after item j was set to x
pub sum_below-set : {A : Type 0} (n j : ℕ) (xs : List A) (x d : A) (f : ℕ → A → ℤ) → j < n → n ≤ length xs
    → sum_below n (λ k. f k (get_or (set xs j x) k d))
    ≡ sum_below n (λ k. f k (get_or xs k d)) +ℤ (f j x -ℤ f j (get_or xs j d))
sum_below-set {A} zero j xs x d f l few = absurd (omega (arith, l))
sum_below-set {A} (suc n) j xs x d f l few = at (eqb n j) refl (λ m. sum_below-set n j xs x d f m (omega (arith, few)))
  where
    old : ℕ → ℤ
    old k = f k (get_or xs k d)

    new : ℕ → ℤ
    new k = f k (get_or (set xs j x) k d)

    at : (b : Bool) → eqb n j ≡ b → (j < n → sum_below n new ≡ sum_below n old +ℤ (f j x -ℤ old j))
        → sum_below (suc n) new ≡ sum_below (suc n) old +ℤ (f j x -ℤ old j)
    at true e _ =
        let here : n ≡ j = grind (arith, nat_tests) in
        let before : sum_below n new ≡ sum_below n old = sum_below_same n new old
        (λ k m. let other : k ≢ j = omega arith in ap (f k) (get_or-set_other xs j k x d other)) in
        let last : new n ≡ f j x = rw here (ap (f j) (get_or-set_same xs j x d (omega (arith, few)))) in
        let was : old n ≡ old j = ap old here in
        rw (sum_below-suc n new, sum_below-suc n old, before, last, was) (omega (arith, signed_arith))
    at false e rest =
        let other : n ≢ j = grind (arith, nat_tests) in
        let ih = rest (omega (arith, l)) in
        let last : new n ≡ old n = ap (f n) (get_or-set_other xs j n x d other) in
        rw (sum_below-suc n new, sum_below-suc n old, ih, last) (omega (arith, signed_arith))

-- one number of a list is another
pub total-set : (xs : List ℤ) (i : ℕ) (v d : ℤ) → i < length xs → total (set xs i v) ≡ (total xs -ℤ get_or xs i d) +ℤ v
unfolding total
total-set [] i v d h = absurd (omega (arith, h))
total-set (x ∷ xs) zero v d h = omega (arith, signed_arith)
total-set (x ∷ xs) (suc i) v d h = let e = total-set xs i v d (omega (arith, h)) in omega (arith, signed_arith, e)

-- ---- lists by number

-- a list is f 0, .., f (n - 1) where its members are
pub list_of-from : (n : ℕ) (f : ℕ → ℤ) (xs : List ℤ) → length xs ≡ n
    → ((k : ℕ) → k < n → get_or xs k (pos 0) ≡ f k) → xs ≡ list_of n f
list_of-from n f xs each h =
    ext_get_or (pos 0) xs (list_of n f) (each ∙ sym (length-map-range_with_len f 0 n)) (λ k l.
    let low : k < n = omega (arith, each, l) in
    h k low ∙ sym (get_or-map-range_with_len f 0 n k k (pos 0) low (omega arith)))

pub get_or-list_of : (n : ℕ) (f : ℕ → ℤ) (k : ℕ) → k < n → get_or (list_of n f) k (pos 0) ≡ f k
get_or-list_of n f k l = get_or-map-range_with_len f 0 n k k (pos 0) l (omega arith)

pub length-list_of : (n : ℕ) (f : ℕ → ℤ) → length (list_of n f) ≡ n
length-list_of n f = length-map-range_with_len f 0 n

pub list_of_same : (n : ℕ) (f g : ℕ → ℤ) → ((k : ℕ) → k < n → f k ≡ g k) → list_of n f ≡ list_of n g
list_of_same n f g h = list_of-from n g (list_of n f) (length-list_of n f) (λ k l. get_or-list_of n f k l ∙ h k l)

-- ---- a slice that is written back

pub written_back : {X : Type 0} (xs ys : List X) (n : ℕ) → length ys ≡ n → take n (ys ++ drop (length ys) xs) ≡ ys
written_back xs ys n e = rw (sym e) (take-append_seam ys (drop (length ys) xs))
