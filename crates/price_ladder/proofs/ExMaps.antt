-- Prices of exclusions in ascending lists: the prices decide the list, and a sum
-- over the list changes with one price alone.
use Rattle.std.proofs.Common.{◌≡◌, ℕ, zero, suc, ◌+◌, ◌<◌, ◌≤◌, ◌⊎◌, inl, inr, refl, sym, ◌∙◌, ap, subst, arith, List}
use Rattle.std.proofs.Common.{[], ◌∷◌, Bool, true, false, cond, eqb, ◌&&◌, not, AllPairs, filter, sum_by}
use Rattle.std.specs.List.{AllByRecursion}
use Rattle.std.proofs.lemmas.Bool.Decides.{nat_tests}
use Rattle.std.proofs.lemmas.List.Elements.{recursion_from_All}
use Rattle.std.proofs.lemmas.List.Sums.{sum_by-cons}
use Rattle.instance_model.specs.Tables.{Tables}
use Rattle.lagrange_bound.specs.declared.ex_price.ExPrice.{ExPrice}
use Rattle.lagrange_bound.specs.Prices.{IsExPrice, ExBefore, ex_of, is_price_of}
use Rattle.lagrange_bound.proofs.ExSetLemmas.{price_at}

-- each stands before all that follow
abbrev pub Rising : List ExPrice → Type 0
Rising [] = Unit {0}
Rising (x ∷ xs) = AllByRecursion (ExBefore x) xs × Rising xs

-- none is 0
abbrev pub ArePositive : List ExPrice → Type 0
ArePositive xs = AllByRecursion (λ x. 1 ≤ x.value) xs

pub Rising-from : (xs : List ExPrice) → AllPairs ExBefore xs → Rising xs
Rising-from [] h = tt
Rising-from (x ∷ xs) h = (
  recursion_from_All (ExBefore x) xs (λ k d l. h zero (suc k) d (omega arith) (omega (arith, l))),
  Rising-from xs
      (λ i j d l m. h (suc i) (suc j) d (omega (arith, l)) (omega (arith, m))),
)

pub ArePositive-from : (inst : Tables) (xs : List ExPrice) → AllByRecursion (IsExPrice inst) xs → ArePositive xs
ArePositive-from inst [] h = tt
ArePositive-from inst (x ∷ xs) h = (h.0.some, ArePositive-from inst xs h.1)

-- ---- keys

apart : (e t : ℕ) (y : ExPrice) → (e < y.exclusion) ⊎ ((e ≡ y.exclusion) × (t < y.period)) → is_price_of e t y ≡ false
apart e t y h = at (is_price_of e t y) refl
  where
    at : (b : Bool) → is_price_of e t y ≡ b → is_price_of e t y ≡ false
    at true q = absurd (grind (arith, nat_tests))
    at false q = q

own : (x : ExPrice) → is_price_of x.exclusion x.period x ≡ true
own x = grind (arith, nat_tests)

all_apart : (e t : ℕ) (x : ExPrice) (ys : List ExPrice) → x.exclusion ≡ e → x.period ≡ t
    → AllByRecursion (ExBefore x) ys → AllByRecursion (λ y. is_price_of e t y ≡ false) ys
all_apart e t x [] p q h = tt
all_apart e t x (y ∷ ys) p q h = (
  apart e t y (subst (λ (n : ℕ). (n < y.exclusion) ⊎ ((n ≡ y.exclusion) × (t < y.period))) p
      (subst (λ (n : ℕ). (x.exclusion < y.exclusion) ⊎ ((x.exclusion ≡ y.exclusion) × (n < y.period))) q h.0)),
  all_apart e t x ys p q h.1,
)

before_trans : (x y z : ExPrice) → ExBefore x y → ExBefore y z → ExBefore x z
before_trans x y z h k = grind arith

all_before : (x y : ExPrice) (zs : List ExPrice) → ExBefore x y → AllByRecursion (ExBefore y) zs
    → AllByRecursion (ExBefore x) zs
all_before x y [] h k = tt
all_before x y (z ∷ zs) h k = (before_trans x y z h k.0, all_before x y zs h k.1)

-- ---- what is read at a key

pub ex_of-hit : (x : ExPrice) (xs : List ExPrice) (e t : ℕ) → is_price_of e t x ≡ true → ex_of (x ∷ xs) e t ≡ x.value
unfolding ex_of
ex_of-hit x xs e t h = rw h refl

pub ex_of-miss : (x : ExPrice) (xs : List ExPrice) (e t : ℕ) → is_price_of e t x ≡ false
    → ex_of (x ∷ xs) e t ≡ ex_of xs e t
unfolding ex_of
ex_of-miss x xs e t h = rw h refl

ex_of-apart : (xs : List ExPrice) (e t : ℕ) → AllByRecursion (λ y. is_price_of e t y ≡ false) xs → ex_of xs e t ≡ 0
unfolding ex_of
ex_of-apart [] e t h = refl
ex_of-apart (x ∷ xs) e t h = ex_of-miss x xs e t h.0 ∙ ex_of-apart xs e t h.1

-- ---- the prices decide the list

order : (x y : ExPrice) → ExBefore x y ⊎ (((x.exclusion ≡ y.exclusion) × (x.period ≡ y.period)) ⊎ ExBefore y x)
order x y = grind arith

same_price : (x y : ExPrice) → x.exclusion ≡ y.exclusion → x.period ≡ y.period → x.value ≡ y.value → x ≡ y
same_price x y p q r =
    ap (λ (n : ℕ). record x { exclusion = n }) p ∙ ap (λ (n : ℕ). record x { exclusion = y.exclusion; period = n }) q
    ∙ ap (λ (n : ℕ). record x { exclusion = y.exclusion; period = y.period; value = n }) r

-- a list that begins behind a price has none at its key
missed : (x y : ExPrice) (ys : List ExPrice) → ExBefore x y → AllByRecursion (ExBefore y) ys
    → ex_of (y ∷ ys) x.exclusion x.period ≡ 0
missed x y ys h k = ex_of-apart (y ∷ ys) x.exclusion x.period
    (apart x.exclusion x.period y h, all_apart x.exclusion x.period x ys refl refl (all_before x y ys h k))

pub same_prices : (xs ys : List ExPrice) → Rising xs → Rising ys → ArePositive xs → ArePositive ys
    → ((e t : ℕ) → ex_of xs e t ≡ ex_of ys e t) → xs ≡ ys
unfolding ex_of
same_prices [] [] h k p q same = refl
same_prices [] (y ∷ ys) h k p q same =
    absurd (omega (arith, same y.exclusion y.period, ex_of-hit y ys y.exclusion y.period (own y), q.0))
same_prices (x ∷ xs) [] h k p q same =
    absurd (omega (arith, same x.exclusion x.period, ex_of-hit x xs x.exclusion x.period (own x), p.0))
same_prices (x ∷ xs) (y ∷ ys) h k p q same = at (order x y) (λ s. same_prices xs ys h.1 k.1 p.1 q.1 s)
  where
    rest : (x.exclusion ≡ y.exclusion) → (x.period ≡ y.period) → (e t : ℕ) → ex_of xs e t ≡ ex_of ys e t
    rest a b e t = by (is_price_of e t x) refl
      where
        by : (r : Bool) → is_price_of e t x ≡ r → ex_of xs e t ≡ ex_of ys e t
        by true r =
            let a' : x.exclusion ≡ e = grind (arith, nat_tests) in
            let b' : x.period ≡ t = grind (arith, nat_tests) in
            ex_of-apart xs e t (all_apart e t x xs a' b' h.0)
            ∙ sym (ex_of-apart ys e t (all_apart e t y ys (sym a ∙ a') (sym b ∙ b') k.0))
        by false r =
            let r' : is_price_of e t y ≡ false = rw (sym a, sym b) r in
            sym (ex_of-miss x xs e t r) ∙ same e t ∙ ex_of-miss y ys e t r'

    at : ExBefore x y ⊎ (((x.exclusion ≡ y.exclusion) × (x.period ≡ y.period)) ⊎ ExBefore y x)
        → (((e t : ℕ) → ex_of xs e t ≡ ex_of ys e t) → xs ≡ ys) → x ∷ xs ≡ y ∷ ys
    at (inl b) more = absurd
        (omega
        (arith, same x.exclusion x.period, ex_of-hit x xs x.exclusion x.period (own x), missed x y ys b k.0, p.0))
    at (inr (inl w)) more =
        let r : is_price_of x.exclusion x.period y ≡ true = rw (w.0, w.1) (own y) in
        let v : x.value ≡ y.value = sym (ex_of-hit x xs x.exclusion x.period (own x)) ∙ same x.exclusion x.period
        ∙ ex_of-hit y ys x.exclusion x.period r in
        let e : x ≡ y = same_price x y w.0 w.1 v in
        let t : xs ≡ ys = more (rest w.0 w.1) in
        cc
    at (inr (inr b)) more = absurd
        (omega
        (arith, same y.exclusion y.period, ex_of-hit y ys y.exclusion y.period (own y), missed y x xs b h.0, q.0))

-- ---- all but the price at one key

abbrev others : ℕ → ℕ → List ExPrice → List ExPrice
others e t xs = filter (λ x. not (is_price_of e t x)) xs

others_each : (P : ExPrice → Type 0) (e t : ℕ) (xs : List ExPrice) → AllByRecursion P xs
    → AllByRecursion P (others e t xs)
others_each P e t [] h = tt
others_each P e t (x ∷ xs) h = at (not (is_price_of e t x)) (others_each P e t xs h.1)
  where
    at : (b : Bool) → AllByRecursion P (others e t xs) → AllByRecursion P (cond b (x ∷ others e t xs) (others e t xs))
    at true k = (h.0, k)
    at false k = k

others_rising : (e t : ℕ) (xs : List ExPrice) → Rising xs → Rising (others e t xs)
others_rising e t [] h = tt
others_rising e t (x ∷ xs) h = at (not (is_price_of e t x)) (others_rising e t xs h.1)
  where
    at : (b : Bool) → Rising (others e t xs) → Rising (cond b (x ∷ others e t xs) (others e t xs))
    at true k = (others_each (ExBefore x) e t xs h.0, k)
    at false k = k

ex_of-others : (e t : ℕ) (xs : List ExPrice) (d u : ℕ)
    → ex_of (others e t xs) d u ≡ cond (eqb d e && eqb u t) 0 (ex_of xs d u)
unfolding ex_of
ex_of-others e t [] d u = at (eqb d e && eqb u t)
  where
    at : (b : Bool) → ◌≡◌ {A = ℕ} 0 (cond b 0 0)
    at true = refl
    at false = refl
ex_of-others e t (x ∷ xs) d u =
    at (is_price_of e t x) (is_price_of d u x) (eqb d e && eqb u t) refl refl refl (ex_of-others e t xs d u)
  where
    at : (a b q : Bool) → is_price_of e t x ≡ a → is_price_of d u x ≡ b → eqb d e && eqb u t ≡ q
        → ex_of (others e t xs) d u ≡ cond q 0 (ex_of xs d u)
        → ex_of (cond (not a) (x ∷ others e t xs) (others e t xs)) d u ≡ cond q 0 (cond b x.value (ex_of xs d u))
    at true true true i j k h = h
    at true true false i j k h = absurd (grind (arith, nat_tests))
    at true false true i j k h = h
    at true false false i j k h = h
    at false true true i j k h = absurd (grind (arith, nat_tests))
    at false true false i j k h = ex_of-hit x (others e t xs) d u j
    at false false true i j k h = ex_of-miss x (others e t xs) d u j ∙ h
    at false false false i j k h = ex_of-miss x (others e t xs) d u j ∙ h

-- a sum is that over all but one key, and the part of that key
sum-others : (f : ExPrice → ℕ) (e t : ℕ) (xs : List ExPrice) → Rising xs → f (price_at e t 0) ≡ 0
    → sum_by f xs ≡ f (price_at e t (ex_of xs e t)) + sum_by f (others e t xs)
unfolding ex_of
sum-others f e t [] h none = omega (arith, none)
sum-others f e t (x ∷ xs) h none = at (is_price_of e t x) refl (sum-others f e t xs h.1 none) (sum_by-cons f x xs)
  where
    at : (b : Bool) → is_price_of e t x ≡ b → sum_by f xs ≡ f (price_at e t (ex_of xs e t)) + sum_by f (others e t xs)
        → sum_by f (x ∷ xs) ≡ f x + sum_by f xs
        → sum_by f (x ∷ xs) ≡ f (price_at e t (cond b x.value (ex_of xs e t)))
        + sum_by f (cond (not b) (x ∷ others e t xs) (others e t xs))
    at true q rest here =
        let a : x.exclusion ≡ e = grind (arith, nat_tests) in
        let b : x.period ≡ t = grind (arith, nat_tests) in
        let gone : ex_of xs e t ≡ 0 = ex_of-apart xs e t (all_apart e t x xs a b h.0) in
        let is : f x ≡ f (price_at e t x.value) = ap f (same_price x (price_at e t x.value) a b refl) in
        let part : f (price_at e t (ex_of xs e t)) ≡ 0 = ap (λ (n : ℕ). f (price_at e t n)) gone ∙ none in
        omega (arith, rest, here, is, part)
    at false q rest here = omega (arith, rest, here, sum_by-cons f x (others e t xs))

-- where one price is another, a sum changes by its part alone
pub sum-changed : (f : ExPrice → ℕ) (e t v : ℕ) (xs ys : List ExPrice) → Rising xs → Rising ys → ArePositive xs
    → ArePositive ys → f (price_at e t 0) ≡ 0 → ((d u : ℕ) → ex_of ys d u ≡ cond (eqb d e && eqb u t) v (ex_of xs d u))
    → sum_by f ys + f (price_at e t (ex_of xs e t)) ≡ sum_by f xs + f (price_at e t v)
sum-changed f e t v xs ys h k p q none set =
    let same : others e t ys ≡ others e t xs = same_prices (others e t ys) (others e t xs) (others_rising e t ys k)
    (others_rising e t xs h) (others_each (λ x. 1 ≤ x.value) e t ys q) (others_each (λ x. 1 ≤ x.value) e t xs p)
    (λ d u. ex_of-others e t ys d u ∙ ap (cond (eqb d e && eqb u t) 0) (set d u)
    ∙ twice (eqb d e && eqb u t) v (ex_of xs d u) ∙ sym (ex_of-others e t xs d u)) in
    let now : ex_of ys e t ≡ v = set e t ∙ ap (λ (b : Bool). cond b v (ex_of xs e t)) (here e t) in
    let a = sum-others f e t xs h none in
    let b = sum-others f e t ys k none in
    let c = ap (λ (n : ℕ). f (price_at e t n)) now in
    let d = ap (sum_by f) same in
    omega (arith, a, b, c, d)
  where
    twice : (b : Bool) (m n : ℕ) → cond b 0 (cond b m n) ≡ cond b 0 n
    twice true m n = refl
    twice false m n = refl

    here : (e t : ℕ) → eqb e e && eqb t t ≡ true
    here e t = grind (arith, nat_tests)
