-- Ascending lists of the prices of exclusions: what stands before and after, and what a change leaves.
use Rattle.std.proofs.Common.{◌≡◌, ℕ, zero, suc, ◌+◌, ◌-◌, ◌<◌, ◌≤◌, ◌⊎◌, inl, inr, refl, sym, ◌∙◌, ap, subst, arith}
use Rattle.std.proofs.Common.{List, [], ◌∷◌, length, get_or, set, take, drop, Bool, true, false, cond, eqb, AllPairs}
use Rattle.std.proofs.Common.{All, ◌&&◌, ◌≢◌}
use Rattle.std.specs.List.{insert, remove, AllByRecursion}
use Rattle.std.proofs.lemmas.Bool.Decides.{nat_tests}
use Rattle.std.proofs.lemmas.List.{get_or-set_same, get_or-set_other}
use Rattle.std.proofs.lemmas.List.Edits.{length-insert, get_or-insert_below, get_or-insert_at, get_or-insert_above}
use Rattle.std.proofs.lemmas.List.Elements.{All-append, All-take, All-drop, All-cons, All-set, All-from_recursion}
use Rattle.std.proofs.lemmas.List.Elements.{recursion_from_All}
use Rattle.std.proofs.Math.ListN.{length-set}
use Rattle.instance_model.specs.Tables.{Tables}
use Rattle.lagrange_bound.specs.declared.ex_price.ExPrice.{ExPrice}
use Rattle.lagrange_bound.specs.Prices.{PriceList, IsPriceList, IsExPrice, ExBefore, ex_of, is_price_of}
use Rattle.lagrange_bound.specs.ExLists.{PairBefore, StandsAt, BelongsAt}

pair_trans : (a b c d e f : ℕ) → PairBefore a b c d → PairBefore c d e f → PairBefore a b e f
pair_trans a b c d e f h k = let p = h.before in let q = k.before in record { before = grind arith }

get_or_same : (xs : List ExPrice) (i : ℕ) (d e : ExPrice) → i < length xs → get_or xs i d ≡ get_or xs i e
get_or_same [] i d e h = absurd (omega (arith, h))
get_or_same (x ∷ xs) zero d e h = refl
get_or_same (x ∷ xs) (suc i) d e h = get_or_same xs i d e (omega (arith, h))

order : (a b : ℕ) → (a < b) ⊎ ((a ≡ b) ⊎ (b < a))
order a b = grind arith

-- all up to a price that stands before the pair stand before it
pub before_more : (xs : List ExPrice) (e t m : ℕ) (x : ExPrice) → AllPairs ExBefore xs → m < length xs
    → PairBefore (get_or xs m x).exclusion (get_or xs m x).period e t → (j : ℕ) (d : ExPrice) → j < m + 1
    → PairBefore (get_or xs j d).exclusion (get_or xs j d).period e t
before_more xs e t m x all h b j d l = at (order j m)
  where
    here : PairBefore (get_or xs m d).exclusion (get_or xs m d).period e t
    here = subst (λ (y : ExPrice). PairBefore y.exclusion y.period e t) (get_or_same xs m x d h) b

    at : (j < m) ⊎ ((j ≡ m) ⊎ (m < j)) → PairBefore (get_or xs j d).exclusion (get_or xs j d).period e t
    at (inl p) = pair_trans (get_or xs j d).exclusion (get_or xs j d).period (get_or xs m d).exclusion
        (get_or xs m d).period e t (record { before = all j m d p h }) here
    at (inr (inl q)) = subst (λ (i : ℕ). PairBefore (get_or xs i d).exclusion (get_or xs i d).period e t) (sym q) here
    at (inr (inr q)) = absurd (omega (arith, q, l))

-- all from a price that stands after the pair stand after it
pub after_more : (xs : List ExPrice) (e t m : ℕ) (x : ExPrice) → AllPairs ExBefore xs → m < length xs
    → PairBefore e t (get_or xs m x).exclusion (get_or xs m x).period → (j : ℕ) (d : ExPrice) → m ≤ j → j < length xs
    → PairBefore e t (get_or xs j d).exclusion (get_or xs j d).period
after_more xs e t m x all h b j d l w = at (order j m)
  where
    here : PairBefore e t (get_or xs m d).exclusion (get_or xs m d).period
    here = subst (λ (y : ExPrice). PairBefore e t y.exclusion y.period) (get_or_same xs m x d h) b

    at : (j < m) ⊎ ((j ≡ m) ⊎ (m < j)) → PairBefore e t (get_or xs j d).exclusion (get_or xs j d).period
    at (inl p) = absurd (omega (arith, p, l))
    at (inr (inl q)) = subst (λ (i : ℕ). PairBefore e t (get_or xs i d).exclusion (get_or xs i d).period) (sym q) here
    at (inr (inr q)) = pair_trans e t (get_or xs m d).exclusion (get_or xs m d).period (get_or xs j d).exclusion
        (get_or xs j d).period here (record { before = all m j d q w })

-- ---- what a change leaves, by exclusion and period

-- no price up to k is of exclusion e in period t
pub record NoneBelow (xs : List ExPrice) (e t k : ℕ) : Type 0 where
  pub none : (j : ℕ) (d : ExPrice) → j < k → j < length xs → is_price_of e t (get_or xs j d) ≡ false

none_next : (x : ExPrice) (xs : List ExPrice) (e t k : ℕ) → NoneBelow (x ∷ xs) e t (suc k) → NoneBelow xs e t k
none_next x xs e t k h = record { none = λ j d l w. h.none (suc j) d (omega (arith, l)) (omega (arith, w)) }

none_first : (x : ExPrice) (xs : List ExPrice) (e t k : ℕ) → NoneBelow (x ∷ xs) e t (suc k) → is_price_of e t x ≡ false
none_first x xs e t k h = h.none zero x (omega arith) (omega arith)

pub ex_of_none : (xs : List ExPrice) (e t : ℕ) → NoneBelow xs e t (length xs) → ex_of xs e t ≡ 0
unfolding ex_of
ex_of_none [] e t h = refl
ex_of_none (x ∷ xs) e t h =
    let here : is_price_of e t x ≡ false = none_first x xs e t (length xs) h in
    let rest : ex_of xs e t ≡ 0 = ex_of_none xs e t (none_next x xs e t (length xs) h) in
    rw here rest

pub ex_of_at : (xs : List ExPrice) (e t k : ℕ) (d : ExPrice) → k < length xs → is_price_of e t (get_or xs k d) ≡ true
    → NoneBelow xs e t k → ex_of xs e t ≡ (get_or xs k d).value
unfolding ex_of
ex_of_at [] e t k d l h n = absurd (omega (arith, l))
ex_of_at (x ∷ xs) e t zero d l h n = rw h refl
ex_of_at (x ∷ xs) e t (suc k) d l h n =
    let here : is_price_of e t x ≡ false = none_first x xs e t k n in
    let rest : ex_of xs e t ≡ (get_or xs k d).value =
    ex_of_at xs e t k d (omega (arith, l)) h (none_next x xs e t k n) in
    rw here rest

-- the two ways to compare with a pair
turned : (e t d u : ℕ) → eqb e d && eqb t u ≡ eqb d e && eqb u t
turned e t d u = at (eqb e d && eqb t u) (eqb d e && eqb u t) refl refl
  where
    at : (a b : Bool) → eqb e d && eqb t u ≡ a → eqb d e && eqb u t ≡ b → eqb e d && eqb t u ≡ eqb d e && eqb u t
    at true true p q = p ∙ sym q
    at false false p q = p ∙ sym q
    at true false p q = absurd (grind (arith, nat_tests))
    at false true p q = absurd (grind (arith, nat_tests))

-- a price is that of at most one pair
one_key : (x : ExPrice) (e t d u : ℕ) → is_price_of e t x ≡ false → is_price_of d u x ≡ true
    → eqb d e && eqb u t ≡ false
one_key x e t d u h k = at (eqb d e && eqb u t) refl
  where
    at : (b : Bool) → eqb d e && eqb u t ≡ b → eqb d e && eqb u t ≡ false
    at true q = absurd (grind (arith, nat_tests))
    at false q = q

same_key : (x : ExPrice) (e t d u : ℕ) → is_price_of e t x ≡ true → is_price_of d u x ≡ eqb d e && eqb u t
same_key x e t d u h =
    let a : x.exclusion ≡ e = grind (arith, nat_tests) in
    let b : x.period ≡ t = grind (arith, nat_tests) in
    rw (a, b) (turned e t d u)

moved : (b c : Bool) (p v r new : ℕ) → (b ≡ true → c ≡ false) → new ≡ cond c v r → cond b p new ≡ cond c v (cond b p r)
moved true c p v r new h e = rw (h refl) refl
moved false c p v r new h e = e

taken : (c : Bool) (p v r : ℕ) → cond c v r ≡ cond c v (cond c p r)
taken true p v r = refl
taken false p v r = refl

left_out : (c : Bool) (p r : ℕ) → (c ≡ true → r ≡ 0) → r ≡ cond c 0 (cond c p r)
left_out true p r h = h refl
left_out false p r h = refl

pair_first : (d u e t : ℕ) → eqb d e && eqb u t ≡ true → d ≡ e
pair_first d u e t q = grind (arith, nat_tests)

pair_second : (d u e t : ℕ) → eqb d e && eqb u t ≡ true → u ≡ t
pair_second d u e t q = grind (arith, nat_tests)

-- exclusion e gets a price in period t
pub ex_of-insert : (xs : List ExPrice) (k v e t d u : ℕ) → NoneBelow xs e t k
    → ex_of (insert xs k (record { exclusion = e; period = t; value = v })) d u
    ≡ cond (eqb d e && eqb u t) v (ex_of xs d u)
unfolding ex_of
ex_of-insert xs zero v e t d u h = rw (turned e t d u) refl
ex_of-insert [] (suc k) v e t d u h = rw (turned e t d u) refl
ex_of-insert (x ∷ xs) (suc k) v e t d u h =
    moved (is_price_of d u x) (eqb d e && eqb u t) x.value v (ex_of xs d u)
    (ex_of (insert xs k (record { exclusion = e; period = t; value = v })) d u)
    (one_key x e t d u (none_first x xs e t k h)) (ex_of-insert xs k v e t d u (none_next x xs e t k h))

-- the price of exclusion e in period t is another
pub ex_of-set : (xs : List ExPrice) (k v e t d u : ℕ) (z : ExPrice) → k < length xs
    → is_price_of e t (get_or xs k z) ≡ true → NoneBelow xs e t k
    → ex_of (set xs k (record { exclusion = e; period = t; value = v })) d u
    ≡ cond (eqb d e && eqb u t) v (ex_of xs d u)
unfolding ex_of
ex_of-set [] k v e t d u z l y h = absurd (omega (arith, l))
ex_of-set (x ∷ xs) zero v e t d u z l y h =
    let here : is_price_of d u x ≡ eqb d e && eqb u t = same_key x e t d u y in
    rw (here, turned e t d u) (taken (eqb d e && eqb u t) x.value v (ex_of xs d u))
ex_of-set (x ∷ xs) (suc k) v e t d u z l y h =
    moved (is_price_of d u x) (eqb d e && eqb u t) x.value v (ex_of xs d u)
    (ex_of (set xs k (record { exclusion = e; period = t; value = v })) d u)
    (one_key x e t d u (none_first x xs e t k h))
    (ex_of-set xs k v e t d u z (omega (arith, l)) y (none_next x xs e t k h))

-- exclusion e has no price in period t any more
pub ex_of-remove : (xs : List ExPrice) (k e t d u : ℕ) (z : ExPrice) → k < length xs
    → is_price_of e t (get_or xs k z) ≡ true → NoneBelow xs e t k
    → ((j : ℕ) (y : ExPrice) → k < j → j < length xs → is_price_of e t (get_or xs j y) ≡ false)
    → ex_of (remove xs k) d u ≡ cond (eqb d e && eqb u t) 0 (ex_of xs d u)
unfolding ex_of
ex_of-remove [] k e t d u z l y h after = absurd (omega (arith, l))
ex_of-remove (x ∷ xs) zero e t d u z l y h after =
    let here : is_price_of d u x ≡ eqb d e && eqb u t = same_key x e t d u y in
    let rest : ex_of xs e t ≡ 0 =
    ex_of_none xs e t (record { none = λ j w a b. after (suc j) w (omega arith) (omega (arith, b)) }) in
    rw here (left_out (eqb d e && eqb u t) x.value (ex_of xs d u)
    (λ q. subst (λ (m : ℕ). ex_of xs m u ≡ 0) (sym (pair_first d u e t q))
    (subst (λ (m : ℕ). ex_of xs e m ≡ 0) (sym (pair_second d u e t q)) rest)))
ex_of-remove (x ∷ xs) (suc k) e t d u z l y h after =
    moved (is_price_of d u x) (eqb d e && eqb u t) x.value 0 (ex_of xs d u) (ex_of (remove xs k) d u)
    (one_key x e t d u (none_first x xs e t k h))
    (ex_of-remove xs k e t d u z (omega (arith, l)) y (none_next x xs e t k h)
    (λ j w a b. after (suc j) w (omega (arith, a)) (omega (arith, b))))

-- ---- what the place that was found tells

before_is_other : (x : ExPrice) (e t : ℕ) → PairBefore x.exclusion x.period e t → is_price_of e t x ≡ false
before_is_other x e t h = at (is_price_of e t x) refl h.before
  where
    at : (b : Bool) → is_price_of e t x ≡ b → (x.exclusion < e) ⊎ ((x.exclusion ≡ e) × (x.period < t))
        → is_price_of e t x ≡ false
    at true q p = absurd (grind (arith, nat_tests))
    at false q p = q

after_is_other : (x : ExPrice) (e t : ℕ) → PairBefore e t x.exclusion x.period → is_price_of e t x ≡ false
after_is_other x e t h = at (is_price_of e t x) refl h.before
  where
    at : (b : Bool) → is_price_of e t x ≡ b → (e < x.exclusion) ⊎ ((e ≡ x.exclusion) × (t < x.period))
        → is_price_of e t x ≡ false
    at true q p = absurd (grind (arith, nat_tests))
    at false q p = q

pub stands_is : (xs : List ExPrice) (e t k : ℕ) (d : ExPrice) → StandsAt xs e t k
    → is_price_of e t (get_or xs k d) ≡ true
stands_is xs e t k d h =
    let a = h.exclusion d in
    let b = h.period d in
    rw (a, b) (grind (arith, nat_tests))

pub none_below_found : (xs : List ExPrice) (e t k : ℕ) → AllPairs ExBefore xs → StandsAt xs e t k → NoneBelow xs e t k
none_below_found xs e t k all h = record {
  none = λ j d l w. before_is_other (get_or xs j d) e t
      (record { before = rw (h.exclusion d, h.period d) at (all j k d l h.within) });
}

pub none_above_found : (xs : List ExPrice) (e t k : ℕ) → AllPairs ExBefore xs → StandsAt xs e t k
    → (j : ℕ) (d : ExPrice) → k < j → j < length xs → is_price_of e t (get_or xs j d) ≡ false
none_above_found xs e t k all h j d l w =
    after_is_other (get_or xs j d) e t (record { before = rw (h.exclusion d, h.period d) at (all k j d l w) })

pub none_below_missing : (xs : List ExPrice) (e t k : ℕ) → BelongsAt xs e t k → NoneBelow xs e t k
none_below_missing xs e t k h = record { none = λ j d l w. before_is_other (get_or xs j d) e t (h.before j d l) }

none_missing : (xs : List ExPrice) (e t k : ℕ) → BelongsAt xs e t k → NoneBelow xs e t (length xs)
none_missing xs e t k h = record { none = λ j d l w. at j d w (order j k) }
  where
    at : (j : ℕ) (d : ExPrice) → j < length xs → (j < k) ⊎ ((j ≡ k) ⊎ (k < j)) → is_price_of e t (get_or xs j d) ≡ false
    at j d w (inl p) = before_is_other (get_or xs j d) e t (h.before j d p)
    at j d w (inr (inl q)) = after_is_other (get_or xs j d) e t (h.after j d (omega arith) w)
    at j d w (inr (inr q)) = after_is_other (get_or xs j d) e t (h.after j d (omega arith) w)

-- the price that is looked up
pub found_value : (xs : List ExPrice) (e t k : ℕ) (d : ExPrice) → AllPairs ExBefore xs → StandsAt xs e t k
    → (get_or xs k d).value ≡ ex_of xs e t
found_value xs e t k d all h =
    sym (ex_of_at xs e t k d h.within (stands_is xs e t k d h) (none_below_found xs e t k all h))

pub missing_value : (xs : List ExPrice) (e t k : ℕ) → BelongsAt xs e t k → 0 ≡ ex_of xs e t
missing_value xs e t k h = sym (ex_of_none xs e t (none_missing xs e t k h))

-- ---- lists that stay ascending and in range

pub ascends_insert : (xs : List ExPrice) (e t v k : ℕ) → AllPairs ExBefore xs → BelongsAt xs e t k
    → AllPairs ExBefore (insert xs k (record { exclusion = e; period = t; value = v }))
ascends_insert xs e t v k all h =
    λ i j d l w. at i j d l (omega (arith, w, length-insert xs k new h.within)) (order i k) (order j k)
  where
    new : ExPrice
    new = record { exclusion = e; period = t; value = v }

    below : (j : ℕ) (d : ExPrice) → j < k → get_or (insert xs k new) j d ≡ get_or xs j d
    below j d l = get_or-insert_below xs k new d j l h.within

    here : (j : ℕ) (d : ExPrice) → j ≡ k → get_or (insert xs k new) j d ≡ new
    here j d q = rw q (get_or-insert_at xs k new d h.within)

    above : (j : ℕ) (d : ExPrice) → k < j → get_or (insert xs k new) j d ≡ get_or xs (j - 1) d
    above j d l =
        let e : j ≡ (j - 1) + 1 = omega arith in
        ap (λ (n : ℕ). get_or (insert xs k new) n d) e ∙ get_or-insert_above xs k new d (j - 1) (omega arith) h.within

    both : (a b c f : ExPrice) → a ≡ c → b ≡ f → ExBefore c f → ExBefore a b
    both a b c f p q r = subst (λ (y : ExPrice). ExBefore a y) (sym q) (subst (λ (y : ExPrice). ExBefore y f) (sym p) r)

    at : (i j : ℕ) (d : ExPrice) → i < j → j < length xs + 1 → (i < k) ⊎ ((i ≡ k) ⊎ (k < i))
        → (j < k) ⊎ ((j ≡ k) ⊎ (k < j)) → ExBefore (get_or (insert xs k new) i d) (get_or (insert xs k new) j d)
    at i j d l w (inl p) (inl q) = both (get_or (insert xs k new) i d) (get_or (insert xs k new) j d) (get_or xs i d)
        (get_or xs j d) (below i d p) (below j d q) (all i j d l (omega (arith, h.within)))
    at i j d l w (inl p) (inr (inl q)) = both (get_or (insert xs k new) i d) (get_or (insert xs k new) j d)
        (get_or xs i d) new (below i d p) (here j d q) (h.before i d p).before
    at i j d l w (inl p) (inr (inr q)) = both (get_or (insert xs k new) i d) (get_or (insert xs k new) j d)
        (get_or xs i d) (get_or xs (j - 1) d) (below i d p) (above j d q) (all i (j - 1) d (omega arith) (omega arith))
    at i j d l w (inr (inl p)) (inl q) = absurd (omega arith)
    at i j d l w (inr (inl p)) (inr (inl q)) = absurd (omega arith)
    at i j d l w (inr (inl p)) (inr (inr q)) = both (get_or (insert xs k new) i d) (get_or (insert xs k new) j d) new
        (get_or xs (j - 1) d) (here i d p) (above j d q) (h.after (j - 1) d (omega arith) (omega arith)).before
    at i j d l w (inr (inr p)) (inl q) = absurd (omega arith)
    at i j d l w (inr (inr p)) (inr (inl q)) = absurd (omega arith)
    at i j d l w (inr (inr p)) (inr (inr q)) = both (get_or (insert xs k new) i d) (get_or (insert xs k new) j d)
        (get_or xs (i - 1) d) (get_or xs (j - 1) d) (above i d p) (above j d q)
        (all (i - 1) (j - 1) d (omega arith) (omega arith))

pub ascends_set : (xs : List ExPrice) (e t v k : ℕ) → AllPairs ExBefore xs → StandsAt xs e t k
    → AllPairs ExBefore (set xs k (record { exclusion = e; period = t; value = v }))
ascends_set xs e t v k all h = λ i j d l w. at i j d l (omega (arith, w, length-set xs k new)) (order i k) (order j k)
  where
    new : ExPrice
    new = record { exclusion = e; period = t; value = v }

    other : (j : ℕ) (d : ExPrice) → j ≢ k → get_or (set xs k new) j d ≡ get_or xs j d
    other j d l = get_or-set_other xs k j new d l

    here : (j : ℕ) (d : ExPrice) → j ≡ k → get_or (set xs k new) j d ≡ new
    here j d q = rw q (get_or-set_same xs k new d h.within)

    both : (a b c f : ExPrice) → a ≡ c → b ≡ f → ExBefore c f → ExBefore a b
    both a b c f p q r = subst (λ (y : ExPrice). ExBefore a y) (sym q) (subst (λ (y : ExPrice). ExBefore y f) (sym p) r)

    rest : (i j : ℕ) (d : ExPrice) → i < j → j < length xs → i ≢ k → j ≢ k
        → ExBefore (get_or (set xs k new) i d) (get_or (set xs k new) j d)
    rest i j d l w a b = both (get_or (set xs k new) i d) (get_or (set xs k new) j d) (get_or xs i d) (get_or xs j d)
        (other i d a) (other j d b) (all i j d l w)

    at : (i j : ℕ) (d : ExPrice) → i < j → j < length xs → (i < k) ⊎ ((i ≡ k) ⊎ (k < i)) → (j < k) ⊎ ((j ≡ k) ⊎ (k < j))
        → ExBefore (get_or (set xs k new) i d) (get_or (set xs k new) j d)
    at i j d l w (inr (inl p)) _ = both (get_or (set xs k new) i d) (get_or (set xs k new) j d) new (get_or xs j d)
        (here i d p) (other j d (omega arith)) (rw (h.exclusion d, h.period d) at (all k j d (omega arith) w))
    at i j d l w _ (inr (inl q)) = both (get_or (set xs k new) i d) (get_or (set xs k new) j d) (get_or xs i d) new
        (other i d (omega arith)) (here j d q) (rw (h.exclusion d, h.period d) at (all i k d (omega arith) h.within))
    at i j d l w (inl p) (inl q) = rest i j d l w (omega arith) (omega arith)
    at i j d l w (inl p) (inr (inr q)) = rest i j d l w (omega arith) (omega arith)
    at i j d l w (inr (inr p)) (inl q) = rest i j d l w (omega arith) (omega arith)
    at i j d l w (inr (inr p)) (inr (inr q)) = rest i j d l w (omega arith) (omega arith)

pub insert_each : (inst : Tables) (xs : List ExPrice) (k : ℕ) (x : ExPrice) → AllByRecursion (IsExPrice inst) xs
    → IsExPrice inst x → AllByRecursion (IsExPrice inst) (insert xs k x)
insert_each inst xs k x all h =
    let each : All (IsExPrice inst) xs = All-from_recursion (IsExPrice inst) xs all in
    recursion_from_All (IsExPrice inst) (insert xs k x)
    (All-append (IsExPrice inst) (take k xs) (x ∷ drop k xs) (All-take (IsExPrice inst) k xs each)
    (All-cons (IsExPrice inst) x (drop k xs) h (All-drop (IsExPrice inst) k xs each)))

pub set_each : (inst : Tables) (xs : List ExPrice) (k : ℕ) (x : ExPrice) → AllByRecursion (IsExPrice inst) xs
    → IsExPrice inst x → AllByRecursion (IsExPrice inst) (set xs k x)
set_each inst xs k x all h = recursion_from_All (IsExPrice inst) (set xs k x)
    (All-set (IsExPrice inst) xs k x h (All-from_recursion (IsExPrice inst) xs all))

pub remove_each : (inst : Tables) (xs : List ExPrice) (k : ℕ) → AllByRecursion (IsExPrice inst) xs
    → AllByRecursion (IsExPrice inst) (remove xs k)
remove_each inst xs k all =
    let each : All (IsExPrice inst) xs = All-from_recursion (IsExPrice inst) xs all in
    recursion_from_All (IsExPrice inst) (remove xs k) (All-append (IsExPrice inst) (take k xs) (drop (suc k) xs)
    (All-take (IsExPrice inst) k xs each) (All-drop (IsExPrice inst) (suc k) xs each))

pub ex_in_range : (inst : Tables) (prices : PriceList) (ex : List ExPrice) → IsPriceList inst prices
    → AllByRecursion (IsExPrice inst) ex → AllPairs ExBefore ex → IsPriceList inst (record prices { ex = ex })
ex_in_range inst prices ex h each ascend =
    record {
      up_each = h.up_each;
      lo_each = h.lo_each;
      up_small = h.up_small;
      lo_small = h.lo_small;
      tails_each = h.tails_each;
      tails = h.tails;
      ex = each;
      ex_ascend = ascend;
    }
