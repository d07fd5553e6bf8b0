-- The m-th smallest of a list.
use Rattle.std.proofs.Common.{◌≡◌, ℕ, zero, suc, ◌+◌, ◌-◌, ◌<◌, ◌≤◌, ◌⊎◌, inl, inr, refl, sym, ◌∙◌, ap, subst, arith, ℤ}
use Rattle.std.proofs.Common.{pos, ◌<ℤ◌, ◌≤ℤ◌, Bool, true, false, cond, List, [], ◌∷◌, length, get_or, take, drop, Some}
use Rattle.std.proofs.Common.{Contains, count_by, int_lt, int_le, ltb, find, unwrap_or, length-take, length-drop}
use Rattle.std.proofs.Common.{get_or-drop, get_or-take, IsPermutation, int_cmp, is_lt}
use Rattle.std.specs.List.Sorted.{IsSorted}
use Rattle.std.proofs.lemmas.Int.{by_lt_z, ints}
use Rattle.std.proofs.lemmas.Bool.{false≢true}
use Rattle.std.proofs.lemmas.Bool.Decides.{nat_tests}
use Rattle.std.proofs.lemmas.Cmp.{int_cmp_total}
use Rattle.std.proofs.lemmas.List.Sums.{sum_by-cons, sum_by-le-sum_by, sum_by-take-drop, sum_by-take-le}
use Rattle.std.proofs.lemmas.List.Sums.{count_by-le-length}
use Rattle.std.proofs.lemmas.List.Sorted.{sum_by-IsPermutation, Contains-permutation, IsPermutation-sym, sorted_far}
use Rattle.std.proofs.lemmas.List.Sorted.{ranks_by, length_permutation}
use borrow.Author.Differences.{up, same_in, below_in, at_most_in, lt_out, le_out, lt-true, le-true, true_is_lt}
use borrow.Author.Differences.{false_is_lt, true_is_le}
use Rattle.fixed_num.specs.Rank.{count_below, count_upto, IsMthSmallest, has_rank, mth_smallest}

-- ---- tests on whole numbers
lt_yes : (a b : ℤ) → a <ℤ b → int_lt a b ≡ true
lt_yes a b h = sym (true_is_lt a b (lt_out a b h))

lt_no : (a b : ℤ) → b ≤ℤ a → int_lt a b ≡ false
lt_no a b h = sym (false_is_lt a b (le_out b a h))

le_yes : (a b : ℤ) → a ≤ℤ b → int_le a b ≡ true
le_yes a b h = sym (true_is_le a b (le_out a b h))

lt_from : (a b : ℤ) → int_lt a b ≡ true → a <ℤ b
lt_from a b e = below_in a b (lt-true a b e)

le_from : (a b : ℤ) → int_le a b ≡ true → a ≤ℤ b
le_from a b e = at_most_in a b (le-true a b e)

-- ---- counts
one_if : Bool → ℕ
one_if b = cond b 1 0

weaker : (p q : Bool) → (p ≡ true → q ≡ true) → cond p 1 0 ≤ cond q 1 0
weaker true q h = rw (h refl) (omega arith)
weaker false q h = omega arith

pub count_mono : {X : Type 0} (p q : X → Bool) (xs : List X) → ((x : X) → p x ≡ true → q x ≡ true)
    → count_by p xs ≤ count_by q xs
count_mono p q xs h = sum_by-le-sum_by (λ x. cond (p x) 1 0) (λ x. cond (q x) 1 0) xs (λ x. weaker (p x) (q x) (h x))

pub count_none : {X : Type 0} (p : X → Bool) (xs : List X)
    → ((k : ℕ) (d : X) → k < length xs → p (get_or xs k d) ≡ false) → count_by p xs ≡ 0
count_none p [] h = refl
count_none p (x ∷ xs) h =
    let here : p x ≡ false = h zero x (omega arith) in
    let rest : count_by p xs ≡ 0 = count_none p xs (λ k d l. h (suc k) d (omega arith)) in
    sum_by-cons (λ y. cond (p y) 1 0) x xs ∙ rw (here, rest) refl

pub count_all : {X : Type 0} (p : X → Bool) (xs : List X) → ((k : ℕ) (d : X) → k < length xs → p (get_or xs k d) ≡ true)
    → count_by p xs ≡ length xs
count_all p [] h = refl
count_all p (x ∷ xs) h =
    let here : p x ≡ true = h zero x (omega arith) in
    let rest : count_by p xs ≡ length xs = count_all p xs (λ k d l. h (suc k) d (omega arith)) in
    sum_by-cons (λ y. cond (p y) 1 0) x xs ∙ rw (here, rest) (omega arith)

pub below_mono : (q r : ℤ) (xs : List ℤ) → q ≤ℤ r → count_below q xs ≤ count_below r xs
below_mono q r xs h = count_mono (λ x. int_lt x q) (λ x. int_lt x r) xs (λ x e. lt_yes x r (let l = lt-true x q e in
    let o = le_out q r h in below_in x r (omega arith)))

pub upto_mono : (q r : ℤ) (xs : List ℤ) → q ≤ℤ r → count_upto q xs ≤ count_upto r xs
upto_mono q r xs h = count_mono (λ x. int_le x q) (λ x. int_le x r) xs (λ x e. le_yes x r (let l = le-true x q e in
    let o = le_out q r h in at_most_in x r (omega arith)))

pub upto_below : (q r : ℤ) (xs : List ℤ) → q <ℤ r → count_upto q xs ≤ count_below r xs
upto_below q r xs h = count_mono (λ x. int_le x q) (λ x. int_lt x r) xs (λ x e. lt_yes x r (let l = le-true x q e in
    let o = lt_out q r h in below_in x r (omega arith)))

-- ---- there is at most one
pub IsMthSmallest_unique : (m : ℕ) (xs : List ℤ) (q r : ℤ) → IsMthSmallest m xs q → IsMthSmallest m xs r → q ≡ r
IsMthSmallest_unique m xs q r h k =
    by_lt_z q r
    (λ l. absurd (omega (arith, upto_below q r xs l, h.upto, k.below)))
    (λ l. by_lt_z r q
    (λ u. absurd (omega (arith, upto_below r q xs u, k.upto, h.below)))
    (λ u. same_in q r (omega (arith, le_out r q l, le_out q r u))))

-- ---- the first that passes
pub find_first : (p : ℤ → Bool) (xs : List ℤ) (q : ℤ) → Contains xs q → p q ≡ true → (r : ℤ) × (find p xs ≡ Some r)
    × (p r ≡ true) × Contains xs r
find_first p [] q (k, l, e) t = absurd (omega (arith, l))
find_first p (x ∷ xs) q c t = at (p x) refl c (λ c. find_first p xs q c t)
  where
    later : ((r : ℤ) × (find p xs ≡ Some r) × (p r ≡ true) × Contains xs r) → p x ≡ false
        → (r : ℤ) × (find p (x ∷ xs) ≡ Some r) × (p r ≡ true) × Contains (x ∷ xs) r
    later w f = (w.0, rw f w.1, w.2, (suc w.3.0, omega (arith, w.3.1), w.3.2))

    at : (b : Bool) → p x ≡ b → Contains (x ∷ xs) q
        → (Contains xs q → (r : ℤ) × (find p xs ≡ Some r) × (p r ≡ true) × Contains xs r)
        → (r : ℤ) × (find p (x ∷ xs) ≡ Some r) × (p r ≡ true) × Contains (x ∷ xs) r
    at true e c ih = (x, rw e refl, e, (zero, omega arith, refl))
    at false e (zero, l, s) ih = absurd (false≢true (sym e ∙ rw s t))
    at false e (suc k, l, s) ih = later (ih (k, omega (arith, l), s)) e

has_rank_yes : (m : ℕ) (xs : List ℤ) (q : ℤ) → IsMthSmallest m xs q → has_rank m xs q ≡ true
has_rank_yes m xs q h =
    let a = h.below in
    let b = h.upto in grind (arith, nat_tests)

has_rank_from : (m : ℕ) (xs : List ℤ) (q : ℤ) → has_rank m xs q ≡ true → (count_below q xs < m) × (m ≤ count_upto q xs)
has_rank_from m xs q e = grind (arith, nat_tests)

-- what has the counts of the m-th smallest is it
pub mth_smallest_is : (m : ℕ) (xs : List ℤ) (q : ℤ) → IsMthSmallest m xs q → q ≡ mth_smallest m xs
unfolding mth_smallest
mth_smallest_is m xs q h =
    let w = find_first (has_rank m xs) xs q h.member (has_rank_yes m xs q h) in
    let s = has_rank_from m xs w.0 w.2 in
    let k : IsMthSmallest m xs w.0 = record { member = w.3; below = s.0; upto = s.1 } in
    IsMthSmallest_unique m xs q w.0 h k ∙ sym (ap (λ o. unwrap_or o (pos 0)) w.1)

-- ---- from a sorted list
not_less : (a b : ℤ) → is_lt (int_cmp a b) ≡ false → b ≤ℤ a
not_less a b e = by_lt_z a b (λ l. absurd (false≢true (sym e ∙ rw (lt_yes a b l) refl))) (λ l. l)

pub sorted_rises : (ys : List ℤ) → IsSorted int_cmp ys → (i j : ℕ) (d : ℤ) → i ≤ j → j < length ys
    → get_or ys i d ≤ℤ get_or ys j d
sorted_rises ys s i j d l k =
    not_less (get_or ys j d) (get_or ys i d)
    (sorted_far (λ x y. is_lt (int_cmp x y)) (ranks_by int_cmp_total (λ x. x)) ys s i j d l k)

pub IsMthSmallest-from_sorted : (m : ℕ) (ys : List ℤ) (q : ℤ)
    → ((i j : ℕ) (d : ℤ) → i ≤ j → j < length ys → get_or ys i d ≤ℤ get_or ys j d) → m < length ys → q ≡ get_or ys m q
    → IsMthSmallest (m + 1) ys q
IsMthSmallest-from_sorted m ys q up l e =
    let f : ℤ → Bool = λ x. int_lt x q in
    let g : ℤ → Bool = λ x. int_le x q in
    let high : count_by f (drop m ys) ≡ 0 = count_none f (drop m ys) (λ k d b.
    let in' : m + k < length ys = omega (arith, b, length-drop m ys) in
    rw (get_or-drop)
    (lt_no (get_or ys (m + k) d) q (rw (e ∙ same_default ys m q d l) (up m (m + k) d (omega arith) in')))) in
    let low : count_by g (take (m + 1) ys) ≡ length (take (m + 1) ys) = count_all g (take (m + 1) ys) (λ k d b.
    let in' : k < m + 1 = omega (arith, b, length-take (m + 1) ys) in
    rw get_or-take (le_yes (get_or ys k d) q (rw (e ∙ same_default ys m q d l) (up k m d (omega arith) l)))) in
    record {
      member = (m, l, sym e);
      below = omega (
        arith,
        high,
        sum_by-take-drop (λ x. cond (f x) 1 0) ys m,
        count_by-le-length f (take m ys),
        length-take m ys,
      );
      upto = omega (arith, low, sum_by-take-le (λ x. cond (g x) 1 0) ys (m + 1), length-take (m + 1) ys);
    }
  where
    same_default : (zs : List ℤ) (i : ℕ) (a b : ℤ) → i < length zs → get_or zs i a ≡ get_or zs i b
    same_default [] i a b h = absurd (omega arith)
    same_default (z ∷ zs) zero a b h = refl
    same_default (z ∷ zs) (suc i) a b h = same_default zs i a b (omega arith)

pub IsMthSmallest-permutation : (m : ℕ) (xs ys : List ℤ) (q : ℤ) → IsPermutation xs ys
    → IsMthSmallest m ys q → IsMthSmallest m xs q
IsMthSmallest-permutation m xs ys q p h =
    record {
      member = Contains-permutation ys xs q (IsPermutation-sym xs ys p) h.member;
      below = omega (arith, h.below, sum_by-IsPermutation (λ x. cond (int_lt x q) 1 0) xs ys p);
      upto = omega (arith, h.upto, sum_by-IsPermutation (λ x. cond (int_le x q) 1 0) xs ys p);
    }

-- ---- there is one
below_cons_no : (q x : ℤ) (xs : List ℤ) → q ≤ℤ x → count_below q (x ∷ xs) ≡ count_below q xs
below_cons_no q x xs h = sum_by-cons (λ y. cond (int_lt y q) 1 0) x xs ∙ rw (lt_no x q h) (omega arith)

below_cons_le : (q x : ℤ) (xs : List ℤ) → count_below q (x ∷ xs) ≤ 1 + count_below q xs
below_cons_le q x xs = rw (sum_by-cons (λ y. cond (int_lt y q) 1 0) x xs) (at (int_lt x q))
  where
    at : (b : Bool) → cond b 1 0 + count_below q xs ≤ 1 + count_below q xs
    at true = omega arith
    at false = omega arith

upto_cons_yes : (q x : ℤ) (xs : List ℤ) → x ≤ℤ q → count_upto q (x ∷ xs) ≡ 1 + count_upto q xs
upto_cons_yes q x xs h = sum_by-cons (λ y. cond (int_le y q) 1 0) x xs ∙ rw (le_yes x q h) refl

upto_cons_ge : (q x : ℤ) (xs : List ℤ) → count_upto q xs ≤ count_upto q (x ∷ xs)
upto_cons_ge q x xs = rw (sum_by-cons (λ y. cond (int_le y q) 1 0) x xs) (omega arith)

later_member : (q x : ℤ) (xs : List ℤ) → Contains xs q → Contains (x ∷ xs) q
later_member q x xs (k, l, e) = (suc k, omega (arith, l), e)

abbrev pub HasMth : ℕ → List ℤ → Type 0
HasMth m xs = (q : ℤ) × IsMthSmallest m xs q

-- x goes before the m-th, and behind the one before that, or not
before : (m : ℕ) (x : ℤ) (xs : List ℤ) → count_below x xs < suc m → ((0 < m) → HasMth m xs) → HasMth (suc m) (x ∷ xs)
before zero x xs b h = (
  x,
  record {
    member = (zero, omega arith, refl);
    below = omega (arith, b, below_cons_no x x xs (omega (arith, ints)));
    upto = omega (arith, upto_cons_yes x x xs (omega (arith, ints)));
  },
)
before (suc m) x xs b h =
    let w = h (omega arith) in
    by_lt_z w.0 x
    (λ l. (
      x,
      record {
        member = (zero, omega arith, refl);
        below = omega (arith, b, below_cons_no x x xs (omega (arith, ints)));
        upto = omega
            (arith, upto_cons_yes x x xs (omega (arith, ints)), upto_mono w.0 x xs (omega (arith, ints, l)), w.1.upto);
      },
    ))
    (λ l. (
      w.0,
      record {
        member = later_member w.0 x xs w.1.member;
        below = omega (arith, below_cons_le w.0 x xs, w.1.below);
        upto = omega (arith, upto_cons_yes w.0 x xs l, w.1.upto);
      },
    ))

pub mth_smallest_exists : (m : ℕ) (xs : List ℤ) → m < length xs → HasMth (suc m) xs
mth_smallest_exists m [] h = absurd (omega (arith, h))
mth_smallest_exists zero (x ∷ xs) h = first (xs) (λ l. mth_smallest_exists zero xs l)
  where
    first : (ys : List ℤ) → (0 < length ys → HasMth 1 ys) → HasMth 1 (x ∷ ys)
    first [] ih = before zero x [] (omega arith) (λ l. absurd (omega (arith, l)))
    first (y ∷ ys) ih =
        let w = ih (omega arith) in
        by_lt_z x w.0
        (λ l. before zero x (y ∷ ys) (omega (arith, below_mono x w.0 (y ∷ ys) (omega (arith, ints, l)), w.1.below))
        (λ l. absurd (omega (arith, l))))
        (λ l. (
          w.0,
          record {
            member = later_member w.0 x (y ∷ ys) w.1.member;
            below = omega (arith, below_cons_no w.0 x (y ∷ ys) l, w.1.below);
            upto = omega (arith, upto_cons_ge w.0 x (y ∷ ys), w.1.upto);
          },
        ))
mth_smallest_exists (suc m) (x ∷ xs) h = more (cases (suc m) (length xs)) (mth_smallest_exists m xs (omega (arith, h)))
    (λ l. mth_smallest_exists (suc m) xs l)
  where
    cases : (a b : ℕ) → (a < b) ⊎ (b ≤ a)
    cases a b = elim (ltb a b) as (λ t. ltb a b ≡ t → (a < b) ⊎ (b ≤ a)) [
      | true ↦
          λ e. inl (grind (arith, nat_tests))
      | false ↦ λ e. inr (grind (arith, nat_tests))
    ] refl

    more : (suc m < length xs) ⊎ (length xs ≤ suc m) → HasMth (suc m) xs → (suc m < length xs → HasMth (suc (suc m)) xs)
        → HasMth (suc (suc m)) (x ∷ xs)
    more (inl l) lower ih =
        let w = ih l in
        by_lt_z x w.0
        (λ u. before (suc m) x xs (omega (arith, below_mono x w.0 xs (omega (arith, ints, u)), w.1.below)) (λ z. lower))
        (λ u. (
          w.0,
          record {
            member = later_member w.0 x xs w.1.member;
            below = omega (arith, below_cons_no w.0 x xs u, w.1.below);
            upto = omega (arith, upto_cons_ge w.0 x xs, w.1.upto);
          },
        ))
    more (inr l) lower ih = before (suc m) x xs (omega (arith, count_by-le-length (λ y. int_lt y x) xs, l)) (λ z. lower)

-- the m-th smallest of a list of at least m numbers
pub IsMthSmallest-mth_smallest : (m : ℕ) (xs : List ℤ) → 0 < m → m ≤ length xs → IsMthSmallest m xs (mth_smallest m xs)
IsMthSmallest-mth_smallest zero xs h l = absurd (omega (arith, h))
IsMthSmallest-mth_smallest (suc m) xs h l =
    let w = mth_smallest_exists m xs (omega (arith, l)) in
    subst (IsMthSmallest (suc m) xs) (mth_smallest_is (suc m) xs w.0 w.1) w.1

-- after a sort of xs into ys: what stands at the rank is the m-th smallest of xs
pub IsMthSmallest-from_sort : (m : ℕ) (xs ys : List ℤ) (q : ℤ) → IsSorted int_cmp ys → IsPermutation xs ys → 1 ≤ m
    → m ≤ length xs → q ≡ get_or ys (m - 1) q → IsMthSmallest m xs q
IsMthSmallest-from_sort m xs ys q s p one few e =
    let k : m - 1 + 1 ≡ m = omega arith in
    let t = IsMthSmallest-from_sorted (m - 1) ys q (sorted_rises ys s) (omega (arith, length_permutation xs ys p)) e in
    IsMthSmallest-permutation m xs ys q p (subst (λ (n : ℕ). IsMthSmallest n ys q) k t)
