-- For the law of the score under tails by groups: in one group at least no number is above the quantile, so the least
-- weighted sum over a group is at most the weight times the quantile.
use Rattle.std.proofs.Common.{◌≡◌, ◌≢◌, ℕ, zero, suc, ◌+◌, ◌-◌, ◌<◌, ◌≤◌, ◌⊎◌, inl, inr, refl, sym, ◌∙◌, ap, arith, ℤ}
use Rattle.std.proofs.Common.{pos, ◌+ℤ◌, ◌*ℤ◌, ◌≤ℤ◌, Bool, true, false, not, cond, List, [], ◌∷◌, length, map, get_or}
use Rattle.std.proofs.Common.{All, AllPairs, Contains, count_by, int_le, filter, eqb}
use Rattle.std.specs.List.{AllByRecursion, IsDistinct, range_with_len}
use Rattle.std.specs.Set.{is_member}
use Rattle.std.proofs.lemmas.Cmp.{nat_eq_equiv}
use Rattle.std.proofs.lemmas.Bool.Decides.{nat_tests, Decides-eqb}
use Rattle.std.proofs.lemmas.List.Elements.{All-contains, All-get_or}
use Rattle.std.proofs.lemmas.List.Sums.{sum_by-cons, length-filter}
use Rattle.std.proofs.lemmas.List.FromFn.{length-range_with_len, get_or-range_with_len}
use Rattle.std.proofs.lemmas.Map.Made.{length-le_from_is_member, is_member-filter, is_member-Decides}
use Rattle.fixed_num.proofs.SumLemmas.{length-list_of}
use Rattle.instance_model.proofs.DeviationLemmas.{scale_mono}
use Rattle.fixed_num.proofs.SignedLemmas.{signed_arith}
use Rattle.fixed_num.proofs.RankLemmas.{IsMthSmallest-mth_smallest}
use borrow.Author.Differences.{at_most_in, le-true, le_out, sum_is_lem, product_is}
use Rattle.lagrange_bound.specs.TailLemmas.{least_over_le, least_over_reached, above_all, count_split}
use Rattle.fixed_num.specs.Rank.{mth_smallest}
use Rattle.fixed_num.specs.Sums.{list_of}
use Rattle.refined_prices.specs.declared.member.Member.{Member}
use Rattle.refined_prices.specs.declared.group_tail.GroupTail.{GroupTail}
use Rattle.refined_prices.specs.Groups.{group_at, scenarios_in, weight_in, IsGroup, AreDisjoint, IsGroupTail}
use Rattle.refined_prices.specs.Groups.{weighted_sum, least_below}

-- ---- the least of f 0, .., f (n - 1) is at most each, and one of them
below_contains : (n k : ℕ) → k < n → Contains (range_with_len 0 n) k
below_contains n k l = (k, omega (arith, l, length-range_with_len 0 n), get_or-range_with_len 0 n k k l ∙ omega arith)

pub least_below-le : (n : ℕ) (f : ℕ → ℤ) (k : ℕ) → k < n → least_below n f ≤ℤ f k
least_below-le n f k l = least_over_le f (range_with_len 0 n) k (below_contains n k l)

pub least_below_reached : (n : ℕ) (f : ℕ → ℤ) → 0 < n → (k : ℕ) × (k < n) × (least_below n f ≡ f k)
least_below_reached n f some =
    let w = least_over_reached f (range_with_len 0 n) (omega (arith, some, length-range_with_len 0 n)) in
    let c = w.1 in
    let len = length-range_with_len 0 n in
    let l : c.0 < n = omega (arith, c.1, len) in
    let e : c.0 ≡ w.0 = (omega arith ∙ sym (get_or-range_with_len 0 n c.0 w.0 l)) ∙ c.2 in
    (w.0, omega (arith, l, e), w.2)

pub least_below_mono : (n : ℕ) (f h : ℕ → ℤ) → 0 < n → ((k : ℕ) → k < n → f k ≤ℤ h k)
    → least_below n f ≤ℤ least_below n h
least_below_mono n f h some le =
    let w = least_below_reached n h some in
    rw w.2 (at (least_below n f) (f w.0) (h w.0) (least_below-le n f w.0 w.1) (le w.0 w.1))
  where
    at : (a b c : ℤ) → a ≤ℤ b → b ≤ℤ c → a ≤ℤ c
    at a b c h k = omega (arith, signed_arith)

-- ---- a scenario that passes a test from each group, or a group in which none does

-- the scenarios of a group all fail the test
abbrev NonePasses : (ℕ → Bool) → List Member → Type 0
NonePasses p group = (k : ℕ) → Contains (scenarios_in group) k → p k ≡ false

-- one scenario of each group, no two the same, all of which pass the test
record IsChosen (p : ℕ → Bool) (groups : List (List Member)) (ks : List ℕ) : Type 0 where
  each : length ks ≡ length groups
  distinct : IsDistinct eqb ks
  pass : (k : ℕ) → Contains ks k → p k ≡ true
  from : (k : ℕ) → Contains ks k → (g : ℕ) × (g < length groups) × Contains (scenarios_in (get_or groups g [])) k

-- a member that passes, or none does
first_pass : (p : ℕ → Bool) (ks : List ℕ) → ((k : ℕ) × Contains ks k × (p k ≡ true))
    ⊎ ((k : ℕ) → Contains ks k → p k ≡ false)
first_pass p [] = inr (λ k c. absurd (omega (arith, c.1)))
first_pass p (j ∷ ks) = at (p j) refl (first_pass p ks)
  where
    at : (b : Bool) → p j ≡ b → ((k : ℕ) × Contains ks k × (p k ≡ true)) ⊎ ((k : ℕ) → Contains ks k → p k ≡ false)
        → ((k : ℕ) × Contains (j ∷ ks) k × (p k ≡ true)) ⊎ ((k : ℕ) → Contains (j ∷ ks) k → p k ≡ false)
    at true e rest = inl (j, (zero, omega arith, refl), e)
    at false e (inl (k, (i, l, m), t)) = inl (k, (suc i, omega (arith, l), m), t)
    at false e (inr none) = inr later
      where
        later : (k : ℕ) → Contains (j ∷ ks) k → p k ≡ false
        later k (zero, l, m) = rw (← m) e
        later k (suc i, l, m) = none k (i, omega (arith, l), m)

-- scenarios of disjoint groups differ
apart_at : (a b : List Member) (j k : ℕ) → AreDisjoint a b → Contains (scenarios_in a) j
    → Contains (scenarios_in b) k → j ≢ k
apart_at a b j k h c d =
    All-contains (λ i. j ≢ i) (scenarios_in b) k
    (All-contains (λ i. All (λ l. i ≢ l) (scenarios_in b)) (scenarios_in a) j h c) d

-- a group in which none passes, or one scenario of each group that passes
choose : (p : ℕ → Bool) (groups : List (List Member)) → AllPairs AreDisjoint groups
    → ((g : ℕ) × (g < length groups) × NonePasses p (get_or groups g [])) ⊎ ((ks : List ℕ) × IsChosen p groups ks)
unfolding IsDistinct
choose p [] apart =
    inr (
      [],
      record {
        each = refl;
        distinct = tt;
        pass = λ k c. absurd (omega (arith, c.1));
        from = λ k c. absurd (omega (arith, c.1));
      },
    )
choose p (x ∷ xs) apart =
    at (choose p xs (λ i j d l m. apart (suc i) (suc j) d (omega (arith, l)) (omega (arith, m))))
    (first_pass p (scenarios_in x))
  where
    at : ((g : ℕ) × (g < length xs) × NonePasses p (get_or xs g [])) ⊎ ((ks : List ℕ) × IsChosen p xs ks)
        → ((k : ℕ) × Contains (scenarios_in x) k × (p k ≡ true)) ⊎ NonePasses p x
        → ((g : ℕ) × (g < length (x ∷ xs)) × NonePasses p (get_or (x ∷ xs) g []))
        ⊎ ((ks : List ℕ) × IsChosen p (x ∷ xs) ks)
    at (inl (g, l, none)) first = inl (suc g, omega (arith, l), none)
    at (inr c) (inr none) = inl (zero, omega arith, none)
    at (inr (ks, c)) (inl (k, here, t)) =
        inr (
          k ∷ ks,
          record {
            each = omega (arith, c.each);
            distinct = (
              others ks (λ j d. let w = c.from j d in
                  apart_at x (get_or xs w.0 []) k j (apart zero (suc w.0) [] (omega arith) (omega (arith, w.1))) here
                  w.2),
              c.distinct,
            );
            pass = passes;
            from = comes;
          },
        )
      where
        others : (js : List ℕ) → ((j : ℕ) → Contains js j → k ≢ j) → AllByRecursion (λ y. eqb k y ≡ false) js
        others [] h = tt
        others (j ∷ js) h = (
          differs (eqb k j) refl (h j (zero, omega arith, refl)),
          others js (λ i d. h i (suc d.0, omega (arith, d.1), d.2)),
        )
          where
            differs : (b : Bool) → eqb k j ≡ b → k ≢ j → b ≡ false
            differs true e n = absurd (n (grind (arith, nat_tests)))
            differs false e n = refl

        passes : (j : ℕ) → Contains (k ∷ ks) j → p j ≡ true
        passes j (zero, l, m) = rw (← m) t
        passes j (suc i, l, m) = c.pass j (i, omega (arith, l), m)

        comes : (j : ℕ) → Contains (k ∷ ks) j
            → (g : ℕ) × (g < length (x ∷ xs)) × Contains (scenarios_in (get_or (x ∷ xs) g [])) j
        comes j (zero, l, m) = (zero, omega arith, rw (← m) here)
        comes j (suc i, l, m) = let w = c.from j (i, omega (arith, l), m) in (suc w.0, omega (arith, w.1), w.2)

-- ---- how many scenarios pass

-- as members of a list, and as places
count_shifted : (q : ℤ → Bool) (f : ℕ → ℤ) (a n : ℕ)
    → count_by q (map (λ j. f (j + 1)) (range_with_len a n)) ≡ count_by (λ k. q (f k)) (range_with_len (a + 1) n)
count_shifted q f a zero = refl
count_shifted q f a (suc n) =
    sum_by-cons (λ y. cond (q y) 1 0) (f (a + 1)) (map (λ j. f (j + 1)) (range_with_len (a + 1) n))
    ∙ ap (λ (z : ℕ). cond (q (f (a + 1))) 1 0 + z) (count_shifted q f (a + 1) n)
    ∙ sym (sum_by-cons (λ k. cond (q (f k)) 1 0) (a + 1) (range_with_len (a + 1 + 1) n))

-- distinct scenarios that pass are no more than the scenarios that pass
count_distinct : (n : ℕ) (p : ℕ → Bool) (ks : List ℕ) → IsDistinct eqb ks
    → ((k : ℕ) → Contains ks k → (0 < k) × (k ≤ n) × (p k ≡ true)) → length ks ≤ count_by p (range_with_len 1 n)
count_distinct n p ks distinct h =
    let m = length-le_from_is_member nat_eq_equiv ks (filter p (range_with_len 1 n)) distinct (λ q m. passes q
    ((is_member-Decides Decides-eqb ks q).0 m)) in
    rw (← length-filter p (range_with_len 1 n)) m
  where
    passes : (q : ℕ) → Contains ks q → is_member eqb (filter p (range_with_len 1 n)) q ≡ true
    passes q c =
        let w = h q c in
        let here : get_or (range_with_len 1 n) (q - 1) q ≡ q =
        get_or-range_with_len 1 n (q - 1) q (omega (arith, w.0, w.1)) ∙ omega (arith, w.0) in
        let inside : is_member eqb (range_with_len 1 n) q ≡ true =
        (is_member-Decides Decides-eqb (range_with_len 1 n) q).1
        (q - 1, omega (arith, w.0, w.1, length-range_with_len 1 n), here) in
        is_member-filter nat_eq_equiv p q (λ x e. ap p ((Decides-eqb q x).0 e)) (range_with_len 1 n)
        ∙ rw (inside, w.2) refl

-- ---- the quantile

-- the quantile of f 1, .., f n
abbrev pub quantile_of : ℕ → ℕ → (ℕ → ℤ) → ℤ
quantile_of n rank f = mth_smallest rank (list_of n (λ j. f (j + 1)))

-- f is nowhere above the quantile on some group
pub some_group_below : (n rank : ℕ) (f : ℕ → ℤ) (tail : GroupTail) → 1 ≤ rank → rank ≤ n → IsGroupTail n rank tail
    → (g : ℕ) × (g < length tail.groups)
    × ((k : ℕ) → Contains (scenarios_in (group_at tail g)) k → f k ≤ℤ quantile_of n rank f)
some_group_below n rank f tail one few ok = at (choose above tail.groups ok.apart)
  where
    above : ℕ → Bool
    above k = not (int_le (f k) (quantile_of n rank f))

    upto : (k : ℕ) → above k ≡ false → f k ≤ℤ quantile_of n rank f
    upto k e =
        at_most_in (f k) (quantile_of n rank f)
        (le-true (f k) (quantile_of n rank f) (back (int_le (f k) (quantile_of n rank f)) e))
      where
        back : (b : Bool) → not b ≡ false → b ≡ true
        back true e = refl
        back false e = sym e

    at : ((g : ℕ) × (g < length tail.groups) × NonePasses above (group_at tail g))
        ⊎ ((ks : List ℕ) × IsChosen above tail.groups ks) → (g : ℕ) × (g < length tail.groups)
        × ((k : ℕ) → Contains (scenarios_in (group_at tail g)) k → f k ≤ℤ quantile_of n rank f)
    at (inl (g, l, none)) = (g, l, λ k c. upto k (none k c))
    at (inr (ks, c)) =
        let xs = list_of n (λ j. f (j + 1)) in
        let q = quantile_of n rank f in
        let len : length xs ≡ n = length-list_of n (λ j. f (j + 1)) in
        let r = IsMthSmallest-mth_smallest rank xs one (omega (arith, len)) in
        let w = count_distinct n above ks c.distinct (λ k d. within k (c.from k d) (c.pass k d)) in
        let e = count_shifted (λ x. not (int_le x q)) f 0 n in
        let s = count_split (λ x. int_le x q) xs in
        absurd (omega (arith, w, e, s, len, r.upto, ok.enough, c.each))
      where
        within : (k : ℕ) → (g : ℕ) × (g < length tail.groups) × Contains (scenarios_in (group_at tail g)) k
            → above k ≡ true → (0 < k) × (k ≤ n) × (above k ≡ true)
        within k (g, l, d) t =
            let z = All-get_or (IsGroup n tail.weight) tail.groups g [] l ok.groups in (
              above_all 0 (scenarios_in (group_at tail g)) z.ascend k d,
              All-contains (λ j. j ≤ n) (scenarios_in (group_at tail g)) k z.within d,
              t,
            )

-- ---- the weighted sum over a group

-- where f is at most q on a group, its weighted sum is at most the group's weight times q
weighted_sum-le : (f : ℕ → ℤ) (q : ℤ) (group : List Member)
    → ((k : ℕ) → Contains (scenarios_in group) k → f k ≤ℤ q) → weighted_sum f group ≤ℤ (pos (weight_in group) *ℤ q)
unfolding weighted_sum weight_in
weighted_sum-le f q [] h = at_most_in (pos 0) (pos 0 *ℤ q) (omega (arith, product_is (pos 0) q))
weighted_sum-le f q (x ∷ xs) h =
    let here = scale_mono x.weight (f x.scenario) q (h x.scenario (zero, omega arith, refl)) in
    let rest = weighted_sum-le f q xs (λ k c. h k (suc c.0, omega (arith, c.1), c.2)) in
    at_most_in ((pos x.weight *ℤ f x.scenario) +ℤ weighted_sum f xs) (pos (x.weight + weight_in xs) *ℤ q)
    (omega (
      arith,
      le_out (pos x.weight *ℤ f x.scenario) (pos x.weight *ℤ q) here,
      le_out (weighted_sum f xs) (pos (weight_in xs) *ℤ q) rest,
      sum_is_lem (pos x.weight *ℤ f x.scenario) (weighted_sum f xs),
      product_is (pos x.weight) q,
      product_is (pos (weight_in xs)) q,
      product_is (pos (x.weight + weight_in xs)) q,
    ))

-- the least weighted sum over a group is at most the weight of the tail times the quantile
pub least_group-le-quantile : (n rank : ℕ) (f : ℕ → ℤ) (tail : GroupTail) → 1 ≤ rank → rank ≤ n
    → IsGroupTail n rank tail → least_below (length tail.groups) (λ g. weighted_sum f (group_at tail g))
    ≤ℤ (pos tail.weight *ℤ quantile_of n rank f)
least_group-le-quantile n rank f tail one few ok =
    let w = some_group_below n rank f tail one few ok in
    let z = All-get_or (IsGroup n tail.weight) tail.groups w.0 [] w.1 ok.groups in
    let low = least_below-le (length tail.groups) (λ g. weighted_sum f (group_at tail g)) w.0 w.1 in
    let high = rw z.adds_up at (weighted_sum-le f (quantile_of n rank f) (group_at tail w.0) w.2) in
    trans (least_below (length tail.groups) (λ g. weighted_sum f (group_at tail g)))
    (weighted_sum f (group_at tail w.0)) (pos tail.weight *ℤ quantile_of n rank f) low high
  where
    trans : (a b c : ℤ) → a ≤ℤ b → b ≤ℤ c → a ≤ℤ c
    trans a b c h k = omega (arith, signed_arith)
