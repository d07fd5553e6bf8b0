-- The interventions of a clique, as they are read and compared.
use Rattle.std.proofs.Common.{◌≡◌, ℕ, ◌+◌, ◌-◌, ◌<◌, ◌≤◌, sym, ◌∙◌, ap, arith, List, [], ◌∷◌, ◌++◌, length}
use Rattle.std.proofs.Common.{get_or, take, drop, map, IsTrue, nat_lt}
use Rattle.std.specs.List.{All}
use Rattle.std.specs.Cmp.Lexicographic.{slice_cmp}
use Rattle.std.specs.Ordering.{is_lt, nat_cmp}
use Rattle.std.proofs.lemmas.Bool.{false≢true}
use Rattle.std.proofs.lemmas.Bool.Decides.{nat_tests}
use Rattle.std.proofs.lemmas.List.{drop_more, drop_all, take_more, get_or-map, length-map, length-drop, map-append}

-- ---- numbers of a line

abbrev back : ℕ → ℕ
back i = i - 1

pub numbers_more : (k : ℕ) (read numbers : List ℕ) (n : ℕ) → k < length numbers → n ≡ get_or numbers k 0
    → read ≡ map (λ i. i - 1) (take k numbers)
    → read ++ (n - 1) ∷ [] ≡ map (λ i. i - 1) (take (k + 1) numbers)
numbers_more k read numbers n l is e =
    ap (λ (xs : List ℕ). xs ++ (n - 1) ∷ []) e
    ∙ ap (λ (m : ℕ). map back (take k numbers) ++ (m - 1) ∷ []) is
    ∙ sym (map-append back (take k numbers) (get_or numbers k 0 ∷ []))
    ∙ ap (λ (xs : List ℕ). map back xs) (sym (take_more numbers k 0 l))

-- a number that counts from 1 up to a count
pub number_counts : (k count : ℕ) (numbers : List ℕ) → k < length numbers → All (λ i. 1 ≤ i) numbers
    → All (λ i. i < count) (map (λ i. i - 1) numbers)
    → (1 ≤ get_or numbers k 0) × (get_or numbers k 0 ≤ count)
number_counts k count numbers l some few =
    let longer : k < length (map back numbers) = omega (arith, length-map numbers back, l) in
    let one = some k 0 l in
    let here : get_or (map back numbers) k 0 ≡ get_or numbers k 0 - 1 = get_or-map back numbers k 0 0 l in
    let low = few k 0 longer in
    (one, omega (arith, here, low, one))

-- ---- the order of lists of numbers

-- the second list has ended
pub second_ended : (k : ℕ) (a b : List ℕ) → k < length a → length b ≤ k
    → slice_cmp nat_cmp (map (λ i. i + 1) (drop k a)) (drop k b) ≡ slice_cmp nat_cmp (map (λ i. i + 1) a) b
    → IsTrue (is_lt (slice_cmp nat_cmp (map (λ i. i + 1) a) b)) → ⊥
second_ended k a b l m e h =
    let here : slice_cmp nat_cmp (map (λ i. i + 1) (get_or a k 0 ∷ drop (k + 1) a)) []
    ≡ slice_cmp nat_cmp (map (λ i. i + 1) a) b =
    sym ((λ j. slice_cmp nat_cmp (map (λ i. i + 1) (drop_more a k 0 l j)) (drop_all k b m j))) ∙ e in
    false≢true (ap is_lt here ∙ h)

-- the first list has ended
pub first_ended : (k : ℕ) (a b : List ℕ) → length a ≤ k → k ≤ length a → k ≤ length b
    → slice_cmp nat_cmp (map (λ i. i + 1) (drop k a)) (drop k b) ≡ slice_cmp nat_cmp (map (λ i. i + 1) a) b
    → nat_lt (length a) (length b) ≡ is_lt (slice_cmp nat_cmp (map (λ i. i + 1) a) b)
first_ended k a b l m w e =
    at (drop k b) (let d = length-drop k b in omega (arith, d, l, m, w))
    ∙ ap is_lt (ap (λ (xs : List ℕ). slice_cmp nat_cmp (map (λ i. i + 1) xs) (drop k b)) (sym (drop_all k a l)) ∙ e)
  where
    at : (ys : List ℕ) → length a + length ys ≡ length b
        → nat_lt (length a) (length b) ≡ is_lt (slice_cmp nat_cmp [] ys)
    at [] e = grind (arith, nat_tests)
    at (y ∷ ys) e = grind (arith, nat_tests)
