-- Which numbers are among those that ascend one by one, and those behind them.
use Rattle.std.proofs.Common.{◌≡◌, ℕ, zero, suc, ◌+◌, List, [], ◌∷◌, ◌++◌, refl, ap, sym, ◌∙◌, arith, true, false}
use Rattle.std.proofs.Common.{◌&&◌, ◌<◌, nat_eq}
use Rattle.std.specs.Prelude.{◌||◌, nat_le, nat_lt}
use Rattle.std.specs.List.{list_any}
use Rattle.std.proofs.lemmas.Bool.Decides.{nat_tests}
use Rattle.std.proofs.Math.Bool.{or_assoc}
use Rattle.instance_shape.specs.Keys.{by_number, has_key}
use Rattle.instance_shape.specs.Seen.{numbers_of}
use Rattle.shape_walk.specs.Ascending.{ascending, comes_next}

-- where one number stands behind others
pub numbers_push : (ns : List ℕ) (n : ℕ) → numbers_of (ns ++ n ∷ []) ≡ numbers_of ns ++ by_number n ∷ []
numbers_push [] n = refl
numbers_push (m ∷ ms) n = ap (λ ks. by_number m ∷ ks) (numbers_push ms n)

-- a number among some and those behind them
pub has_either : (ms ns : List ℕ) (n : ℕ) → has_key (numbers_of (ms ++ ns)) (by_number n)
    ≡ (has_key (numbers_of ms) (by_number n) || has_key (numbers_of ns) (by_number n))
has_either [] ns n = refl
has_either (m ∷ ms) ns n =
    ap (λ b. nat_eq n m || b) (has_either ms ns n) ∙ sym (or_assoc (nat_eq n m) _ _)

-- one more place behind a range
one_more : (first k n : ℕ) → ((nat_le first n && nat_lt n (first + k)) || (nat_eq n (first + k) || false))
    ≡ (nat_le first n && nat_lt n (first + suc k))
one_more first k n = grind (arith, nat_tests)

-- a number is among those of a run exactly from its first to its last
pub ascending_has : (first count n : ℕ) → has_key (numbers_of (ascending first count)) (by_number n)
    ≡ (nat_le first n && nat_lt n (first + count))
ascending_has first zero n = grind (arith, nat_tests)
ascending_has first (suc k) n =
    has_either (ascending first k) ((first + k) ∷ []) n ∙ ap (λ b. b || (nat_eq n (first + k) || false))
    (ascending_has first k n) ∙ one_more first k n

-- a number among those of a run that are kept as a list
pub run_has : (first count n : ℕ) (ns : List ℕ) → ascending first count ≡ ns
    → has_key (numbers_of ns) (by_number n) ≡ (nat_le first n && nat_lt n (first + count))
run_has first count n ns e = ap (λ ms. has_key (numbers_of ms) (by_number n)) (sym e) ∙ ascending_has first count n

-- the number behind the last of a run isn't in it
pub next_is_new : (first count n : ℕ) (ns : List ℕ) → ascending first count ≡ ns → n ≡ first + count
    → has_key (numbers_of ns) (by_number n) ≡ false
next_is_new first count n ns e h =
    let has : has_key (numbers_of ns) (by_number n) ≡ (nat_le first n && nat_lt n (first + count)) =
    run_has first count n ns e in
    grind (arith, nat_tests)

-- a run without numbers begins anywhere
pub none_anywhere : (first other count : ℕ) → count ≡ 0 → ascending first count ≡ ascending other count
none_anywhere first other zero h = refl
none_anywhere first other (suc k) h = absurd (omega (arith, h))

-- a number is among the keys exactly where it equals one of the numbers
pub numbers_has : (ns : List ℕ) (n : ℕ) → has_key (numbers_of ns) (by_number n) ≡ list_any (nat_eq n) ns
numbers_has [] n = refl
numbers_has (m ∷ ms) n = ap (λ b. nat_eq n m || b) (numbers_has ms n)

-- a number of the run is one of all
pub in_run : (run others ns : List ℕ) (n : ℕ) → run ++ others ≡ ns → true ≡ has_key (numbers_of run) (by_number n)
    → true ≡ has_key (numbers_of ns) (by_number n)
in_run run others ns n e h =
    ap (λ b. b || has_key (numbers_of others) (by_number n)) h ∙ sym (has_either run others n)
    ∙ ap (λ ms. has_key (numbers_of ms) (by_number n)) e

-- a number that isn't of the run is one of all where it is one of the others
pub behind_run : (run others ns : List ℕ) (n : ℕ) → run ++ others ≡ ns
    → false ≡ has_key (numbers_of run) (by_number n)
    → list_any (nat_eq n) others ≡ has_key (numbers_of ns) (by_number n)
behind_run run others ns n e h =
    sym (numbers_has others n) ∙ ap (λ b. b || has_key (numbers_of others) (by_number n)) h
    ∙ sym (has_either run others n) ∙ ap (λ ms. has_key (numbers_of ms) (by_number n)) e

-- only a number one above the last comes next
comes_behind : (ms : List ℕ) (m n : ℕ) → comes_next n (ms ++ m ∷ []) ≡ nat_eq n (m + 1)
comes_behind [] m n = refl
comes_behind (k ∷ []) m n = refl
comes_behind (k ∷ (j ∷ js)) m n = comes_behind (j ∷ js) m n

-- which number comes next behind a run
pub run_next : (first count n : ℕ) (ns : List ℕ) → ascending first count ≡ ns → 0 < count
    → comes_next n ns ≡ nat_eq n (first + count)
run_next first zero n ns e h = absurd (omega (arith, h))
run_next first (suc k) n ns e h =
    ap (comes_next n) (sym e) ∙ comes_behind (ascending first k) (first + k) n ∙ ap (nat_eq n) (omega arith)

-- behind no numbers each comes next
pub none_next : (first count n : ℕ) (ns : List ℕ) → ascending first count ≡ ns → count ≡ 0 → comes_next n ns ≡ true
none_next first zero n ns e h = ap (comes_next n) (sym e)
none_next first (suc k) n ns e h = absurd (omega (arith, h))

-- a number that doesn't come behind a run, as its first number and their count are kept
pub not_equal : (first count n from many : ℕ) → from ≡ first → many ≡ count → (n ≡ from + many → ⊥)
    → false ≡ nat_eq n (first + count)
not_equal first count n from many here same h = grind (arith, nat_tests)
