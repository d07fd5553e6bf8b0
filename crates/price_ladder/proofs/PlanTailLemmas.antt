-- The tail of a plan is one that its period may have: enough scenarios come first, and they ascend.
use Rattle.std.proofs.Common.{◌≡◌, ℕ, zero, suc, ◌+◌, ◌-◌, ◌<◌, ◌≤◌, ◌⊎◌, inl, inr, refl, sym, ◌∙◌, ap, arith, ℤ, pos}
use Rattle.std.proofs.Common.{◌<ℤ◌, ◌≤ℤ◌, Bool, true, false, cond, not, ◌&&◌, ◌||◌, List, [], ◌∷◌, length, filter}
use Rattle.std.proofs.Common.{count_by, map, Some, nat_lt, int_lt, int_le}
use Rattle.std.specs.List.{AllByRecursion, range_with_len}
use Rattle.std.proofs.lemmas.Int.{ints}
use Rattle.std.proofs.lemmas.Bool.{false≢true, cases_lt, or_cases, or_left, or_right, and_parts, and_from, ltb-true}
use Rattle.std.proofs.lemmas.Bool.{lt-ltb}
use Rattle.std.proofs.lemmas.List.Elements.{All-from_recursion}
use Rattle.std.proofs.lemmas.List.Filters.{length-filter_both}
use Rattle.std.proofs.lemmas.List.FromFn.{length-range_with_len}
use Rattle.std.proofs.lemmas.List.Sums.{sum_by-cons, length-filter}
use borrow.Author.Differences.{below_in, at_most_in, lt-true, le-true, true_is_lt, true_is_le, lt_out, le_out}
use Rattle.fixed_num.specs.Sums.{sum_below, list_of}
use Rattle.fixed_num.proofs.SumLemmas.{length-list_of}
use Rattle.instance_model.specs.Tables.{Tables, scenarios_of, rank_of, in_run, risk_of}
use Rattle.instance_model.specs.Plans.{start_of, risk_at, scenario_sum, scenario_sums}
use Rattle.lagrange_bound.specs.declared.tail.Tail.{Tail}
use Rattle.lagrange_bound.specs.Least.{AscendAbove}
use Rattle.lagrange_bound.specs.Prices.{IsTail}
use Rattle.price_ladder.specs.Tails.{sum_in, comes_before, count_before, first_places, plan_tail}
use Rattle.price_ladder.proofs.CountLemmas.{first, first_all}

-- ---- in an order, given by a test

-- nothing comes before itself, and what comes before another comes before all that this one comes before
record IsOrder (before : ℕ → ℕ → Bool) : Type 0 where
  never : (k : ℕ) → before k k ≡ false
  chain : (i j k : ℕ) → before i j ≡ true → before j k ≡ true → before i k ≡ true

-- one that passes q, and none of the list that does comes before it
record HasFirst (before : ℕ → ℕ → Bool) (q : ℕ → Bool) (ks : List ℕ) : Type 0 where
  k : ℕ
  passes : q k ≡ true
  first : AllByRecursion (λ j. q j ≡ true → before j k ≡ false) ks

count-cons : (q : ℕ → Bool) (x : ℕ) (xs : List ℕ) → count_by q (x ∷ xs) ≡ cond (q x) 1 0 + count_by q xs
count-cons q x xs = sum_by-cons (λ y. cond (q y) 1 0) x xs

none_passes : (q : ℕ → Bool) (before : ℕ → ℕ → Bool) (k : ℕ) (xs : List ℕ) → count_by q xs ≡ 0
    → AllByRecursion (λ j. q j ≡ true → before j k ≡ false) xs
none_passes q before k [] h = tt
none_passes q before k (x ∷ xs) h = at (q x) refl (count-cons q x xs) (λ m. none_passes q before k xs m)
  where
    at : (b : Bool) → q x ≡ b → count_by q (x ∷ xs) ≡ cond b 1 0 + count_by q xs
        → (count_by q xs ≡ 0 → AllByRecursion (λ j. q j ≡ true → before j k ≡ false) xs)
        → AllByRecursion (λ j. q j ≡ true → before j k ≡ false) (x ∷ xs)
    at true e s rest = absurd (omega (arith, h, s))
    at false e s rest = ((λ p. absurd (false≢true (sym e ∙ p))), rest (omega (arith, h, s)))

first_of : (before : ℕ → ℕ → Bool) (q : ℕ → Bool) (ks : List ℕ) → IsOrder before
    → 0 < count_by q ks → HasFirst before q ks
first_of before q [] o h = absurd (omega (arith, h))
first_of before q (x ∷ xs) o h = at (q x) refl (count-cons q x xs) (λ m. first_of before q xs o m)
  where
    closer : (k : ℕ) → before x k ≡ true → (ys : List ℕ) → AllByRecursion (λ j. q j ≡ true → before j k ≡ false) ys
        → AllByRecursion (λ j. q j ≡ true → before j x ≡ false) ys
    closer k b [] f = tt
    closer k b (y ∷ ys) f = ((λ p. not_before (before y x) refl p), closer k b ys f.1)
      where
        not_before : (r : Bool) → before y x ≡ r → q y ≡ true → before y x ≡ false
        not_before true e p = absurd (false≢true (sym (f.0 p) ∙ o.chain y x k e b))
        not_before false e p = e

    pick : q x ≡ true → (w : HasFirst before q xs) (r : Bool) → before x w.k ≡ r → HasFirst before q (x ∷ xs)
    pick e w true b = record { k = x; passes = e; first = ((λ p. o.never x), closer w.k b xs w.first) }
    pick e w false b = record { k = w.k; passes = w.passes; first = ((λ p. b), w.first) }

    some : q x ≡ true → (0 < count_by q xs → HasFirst before q xs) → (0 < count_by q xs) ⊎ (count_by q xs ≤ 0)
        → HasFirst before q (x ∷ xs)
    some e rest (inl m) = let w = rest m in pick e w (before x w.k) refl
    some e rest (inr m) =
        record { k = x; passes = e; first = ((λ p. o.never x), none_passes q before x xs (omega (arith, m))) }

    at : (b : Bool) → q x ≡ b → count_by q (x ∷ xs) ≡ cond b 1 0 + count_by q xs
        → (0 < count_by q xs → HasFirst before q xs) → HasFirst before q (x ∷ xs)
    at true e s rest = some e rest (cases_lt 0 (count_by q xs))
    at false e s rest =
        let w = rest (omega (arith, h, s)) in
        record { k = w.k; passes = w.passes; first = ((λ p. absurd (false≢true (sym e ∙ p))), w.first) }

count_mono : (p q : ℕ → Bool) (ks : List ℕ) → AllByRecursion (λ j. p j ≡ true → q j ≡ true) ks
    → count_by p ks ≤ count_by q ks
count_mono p q [] h = omega arith
count_mono p q (x ∷ xs) h = at (p x) (q x) h.0 (count-cons p x xs) (count-cons q x xs) (count_mono p q xs h.1)
  where
    at : (a b : Bool) → (a ≡ true → b ≡ true) → count_by p (x ∷ xs) ≡ cond a 1 0 + count_by p xs
        → count_by q (x ∷ xs) ≡ cond b 1 0 + count_by q xs → count_by p xs ≤ count_by q xs
        → count_by p (x ∷ xs) ≤ count_by q (x ∷ xs)
    at true true f s t l = omega (arith, s, t, l)
    at true false f s t l = absurd (false≢true (f refl))
    at false true f s t l = omega (arith, s, t, l)
    at false false f s t l = omega (arith, s, t, l)

-- at least m of a list have fewer than m of it before them
enough_first : (before : ℕ → ℕ → Bool) (ks : List ℕ) (m : ℕ) → IsOrder before → m ≤ length ks
    → m ≤ length (filter (λ k. nat_lt (count_by (λ j. before j k) ks) m) ks)
enough_first before ks m o l = at (cases_lt (length (filter p ks)) m)
  where
    p : ℕ → Bool
    p k = nat_lt (count_by (λ j. before j k) ks) m

    passed : (k j : ℕ) → (not (p j) ≡ true → before j k ≡ false) → before j k ≡ true → p j ≡ true
    passed k j f b = by (p j) refl
      where
        by : (r : Bool) → p j ≡ r → p j ≡ true
        by true e = e
        by false e = absurd (false≢true (sym (f (ap not e)) ∙ b))

    all_passed : (k : ℕ) (xs : List ℕ) → AllByRecursion (λ j. not (p j) ≡ true → before j k ≡ false) xs
        → AllByRecursion (λ j. before j k ≡ true → p j ≡ true) xs
    all_passed k [] f = tt
    all_passed k (x ∷ xs) f = (passed k x f.0, all_passed k xs f.1)

    at : (length (filter p ks) < m) ⊎ (m ≤ length (filter p ks)) → m ≤ length (filter p ks)
    at (inr h) = h
    at (inl h) =
        let both = length-filter_both p (λ k. not (p k)) (λ _. refl) ks in
        let w = first_of before (λ k. not (p k)) ks o (omega (arith, both, h, l, length-filter (λ k. not (p k)) ks)) in
        let few = count_mono (λ j. before j w.k) p ks (all_passed w.k ks w.first) in
        let yes : p w.k ≡ true =
        lt-ltb (count_by (λ j. before j w.k) ks) m (omega (arith, few, h, length-filter p ks)) in
        absurd (false≢true (sym (ap not yes) ∙ w.passes))

-- what passes a test on a range ascends, and lies in it
range_ascends : (p : ℕ → Bool) (a b n : ℕ) → b < a → AscendAbove b (filter p (range_with_len a n))
range_ascends p a b zero l = tt
range_ascends p a b (suc n) l = at (p a) (λ c m. range_ascends p (a + 1) c n m)
  where
    at : (r : Bool) → ((c : ℕ) → c < a + 1 → AscendAbove c (filter p (range_with_len (a + 1) n)))
        → AscendAbove b (cond r (a ∷ filter p (range_with_len (a + 1) n)) (filter p (range_with_len (a + 1) n)))
    at true rest = (l, rest a (omega arith))
    at false rest = rest b (omega (arith, l))

range_within : (p : ℕ → Bool) (a n m : ℕ) → a + n ≤ m + 1 → AllByRecursion (λ k. k ≤ m) (filter p (range_with_len a n))
range_within p a zero m l = tt
range_within p a (suc n) m l = at (p a) (range_within p (a + 1) n m (omega (arith, l)))
  where
    at : (r : Bool) → AllByRecursion (λ k. k ≤ m) (filter p (range_with_len (a + 1) n))
        → AllByRecursion (λ k. k ≤ m)
        (cond r (a ∷ filter p (range_with_len (a + 1) n)) (filter p (range_with_len (a + 1) n)))
    at true rest = (omega (arith, l), rest)
    at false rest = rest

-- ---- scenarios in the order of their sums

-- what the test of the order says: a and b are the sums of scenarios j and k
abbrev IsBefore : ℤ → ℤ → ℕ → ℕ → Type 0
IsBefore a b j k = (b <ℤ a) ⊎ ((b ≤ℤ a) × (j < k))

before_means : (a b : ℤ) (j k : ℕ) → int_lt b a || (int_le b a && nat_lt j k) ≡ true → IsBefore a b j k
before_means a b j k h = at (or_cases (int_lt b a) (int_le b a && nat_lt j k) h)
  where
    at : (int_lt b a ≡ true) ⊎ (int_le b a && nat_lt j k ≡ true) → IsBefore a b j k
    at (inl e) = inl (below_in b a (lt-true b a e))
    at (inr e) = let w = and_parts (int_le b a) (nat_lt j k) e in
        inr (at_most_in b a (le-true b a w.0), ltb-true j k w.1)

before_from : (a b : ℤ) (j k : ℕ) → IsBefore a b j k → int_lt b a || (int_le b a && nat_lt j k) ≡ true
before_from a b j k (inl h) = or_left (int_lt b a) (int_le b a && nat_lt j k) (sym (true_is_lt b a (lt_out b a h)))
before_from a b j k (inr h) = or_right (int_lt b a) (int_le b a && nat_lt j k)
    (and_from (int_le b a) (nat_lt j k) (sym (true_is_le b a (le_out b a h.0))) (lt-ltb j k h.1))

before_chain : (a b c : ℤ) (i j k : ℕ) → IsBefore a b i j → IsBefore b c j k → IsBefore a c i k
before_chain a b c i j k (inl h) (inl l) = inl (omega (arith, ints))
before_chain a b c i j k (inl h) (inr l) = inl (omega (arith, ints, l.0))
before_chain a b c i j k (inr h) (inl l) = inl (omega (arith, ints, h.0))
before_chain a b c i j k (inr h) (inr l) = inr (omega (arith, ints, h.0, l.0), omega (arith, h.1, l.1))

not_itself : (a : ℤ) (k : ℕ) → IsBefore a a k k → ⊥
not_itself a k (inl h) = omega (arith, ints)
not_itself a k (inr h) = omega (arith, h.1)

sums_order : (sums : List ℤ) → IsOrder (comes_before sums)
sums_order sums = record {
  never = λ k. at k (comes_before sums k k) refl;
  chain = λ i j k h l. before_from (sum_in sums i) (sum_in sums k) i k
      (before_chain (sum_in sums i) (sum_in sums j) (sum_in sums k) i j k
      (before_means (sum_in sums i) (sum_in sums j) i j h) (before_means (sum_in sums j) (sum_in sums k) j k l));
}
  where
    at : (k : ℕ) (b : Bool) → comes_before sums k k ≡ b → comes_before sums k k ≡ false
    at k true e = absurd (not_itself (sum_in sums k) k (before_means (sum_in sums k) (sum_in sums k) k k e))
    at k false e = e

-- ---- the tail

pub first_places_enough : (sums : List ℤ) (m : ℕ) → m ≤ length sums → m ≤ length (first_places sums m)
unfolding first_places count_before
first_places_enough sums m l = enough_first (comes_before sums) (range_with_len 1 (length sums)) m (sums_order sums)
    (omega (arith, l, length-range_with_len 1 (length sums)))

sums_each : (inst : Tables) (starts : List ℕ) (t : ℕ)
    → length (scenario_sums inst (map Some starts) t) ≡ scenarios_of inst t
unfolding scenario_sums
sums_each inst starts t = length-list_of (scenarios_of inst t) (λ k. scenario_sum inst (map Some starts) t (k + 1))

first_places_ascend : (sums : List ℤ) (m : ℕ) → AscendAbove 0 (first_places sums m)
unfolding first_places
first_places_ascend sums m = range_ascends (λ k. nat_lt (count_before sums k) m) 1 0 (length sums) (omega arith)

first_places_within : (sums : List ℤ) (m n : ℕ) → length sums ≡ n → AllByRecursion (λ k. k ≤ n) (first_places sums m)
unfolding first_places
first_places_within sums m n e = range_within (λ k. nat_lt (count_before sums k) m) 1 (length sums) n (omega (arith, e))

pub plan_tail_in_range : (inst : Tables) (starts : List ℕ) (t : ℕ) → 1 ≤ rank_of inst t
    → rank_of inst t ≤ scenarios_of inst t → IsTail inst t (plan_tail inst starts t)
unfolding plan_tail
plan_tail_in_range inst starts t some few =
    let len = sums_each inst starts t in
    let enough = first_places_enough (scenario_sums inst (map Some starts) t) (scenarios_of inst t + 1 - rank_of inst t)
    (omega (arith, len, some)) in
    record {
      some_weight = omega arith;
      weight = omega arith;
      enough = omega (arith, enough, few);
      ascend = first_places_ascend (scenario_sums inst (map Some starts) t) (scenarios_of inst t + 1 - rank_of inst t);
      within = All-from_recursion (λ k. k ≤ scenarios_of inst t)
          (first_places (scenario_sums inst (map Some starts) t) (scenarios_of inst t + 1 - rank_of inst t))
          (first_places_within (scenario_sums inst (map Some starts) t) (scenarios_of inst t + 1 - rank_of inst t)
          (scenarios_of inst t) len);
    }

-- ---- the scenario sums, as the code adds them up

pub risk_idle : (inst : Tables) (t k i s : ℕ) (b : Bool) (z : ℤ) → b ≡ in_run inst i s t → b ≡ false → z ≡ pos 0
    → z ≡ risk_at inst t k i (Some s)
unfolding risk_at
risk_idle inst t k i s b z e n h = rw (sym e, n) h

pub risk_running : (inst : Tables) (t k i s : ℕ) (b : Bool) (z : ℤ) → b ≡ in_run inst i s t → b ≡ true
    → z ≡ risk_of inst i s t k → z ≡ risk_at inst t k i (Some s)
unfolding risk_at
risk_running inst t k i s b z e n h = rw (sym e, n) h

pub scenario_sum_all : (inst : Tables) (starts : List ℕ) (t k n : ℕ) (z : ℤ) → n ≡ length inst.names
    → z ≡ sum_below n (λ i. risk_at inst t k i (start_of (map Some starts) i))
    → z ≡ scenario_sum inst (map Some starts) t k
unfolding scenario_sum
scenario_sum_all inst starts t k n z e h =
    h ∙ ap (λ (m : ℕ). sum_below m (λ i. risk_at inst t k i (start_of (map Some starts) i))) e

pub scenario_sums_all : (inst : Tables) (starts : List ℕ) (t n : ℕ) (zs : List ℤ) → n ≡ scenarios_of inst t
    → zs ≡ list_of n (λ k. scenario_sum inst (map Some starts) t (k + 1)) → zs ≡ scenario_sums inst (map Some starts) t
unfolding scenario_sums
scenario_sums_all inst starts t n zs e h =
    h ∙ ap (λ (m : ℕ). list_of m (λ k. scenario_sum inst (map Some starts) t (k + 1))) e

-- ---- the tail, as the code makes it

pub counted_all : (sums : List ℤ) (k j c : ℕ) → j ≡ length sums
    → c ≡ count_by (λ i. comes_before sums i k) (first (length sums) j) → c ≡ count_before sums k
unfolding count_before
counted_all sums k j c e h = h ∙ ap (count_by (λ i. comes_before sums i k)) (first_all (length sums) j e)

pub placed_all : (sums : List ℤ) (m j : ℕ) (ks : List ℕ) → j ≡ length sums
    → ks ≡ filter (λ k. nat_lt (count_before sums k) m) (first (length sums) j) → ks ≡ first_places sums m
unfolding first_places
placed_all sums m j ks e h = h ∙ ap (filter (λ k. nat_lt (count_before sums k) m)) (first_all (length sums) j e)

pub plan_tail_is : (inst : Tables) (starts : List ℕ) (t n : ℕ) (sums : List ℤ) (places : List ℕ)
    → sums ≡ scenario_sums inst (map Some starts) t → n ≡ scenarios_of inst t + 1 - rank_of inst t
    → places ≡ first_places sums n → ◌≡◌ {A =
    Tail} (record { weight = 1000; places = places }) (plan_tail inst starts t)
unfolding plan_tail
plan_tail_is inst starts t n sums places e f h = ap (λ (ks : List ℕ). record { weight = 1000; places = ks })
    (h ∙ ap (λ (xs : List ℤ). first_places xs n) e ∙ ap (first_places (scenario_sums inst (map Some starts) t)) f)

pub sums_few : (inst : Tables) (starts : List ℕ) (t : ℕ) (sums : List ℤ) → sums ≡ scenario_sums inst (map Some starts) t
    → length sums ≡ scenarios_of inst t
sums_few inst starts t sums e = ap length e ∙ sums_each inst starts t
