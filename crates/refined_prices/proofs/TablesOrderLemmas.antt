-- Lists whose elements are in range and in strict order, element by element.
use Rattle.std.proofs.Common.{◌≡◌, ℕ, ◌+◌, ◌-◌, ◌<◌, ◌≤◌, ◌⊎◌, inl, inr, refl, sym, ◌∙◌, ap, subst, arith, List, length}
use Rattle.std.proofs.Common.{get_or, AllPairs, IsTrue, Bool, true, Some, Less, Equal, Greater}
use Rattle.std.specs.declared.cmp.Ordering.{Ordering}
use Rattle.std.specs.List.{AllByRecursion}
use Rattle.std.specs.Cmp.Lexicographic.{slice_cmp, slice_partial_cmp, lists_agrees}
use Rattle.std.specs.Ordering.{is_lt, is_some_and, nat_cmp}
use Rattle.std.proofs.lemmas.Bool.{cases_eq}
use Rattle.std.proofs.lemmas.Cmp.{nat_list_cmp_total}
use Rattle.std.proofs.lemmas.List.Elements.{All-from_recursion, recursion_from_All}
use Rattle.refined_prices.specs.declared.offset.Offset.{Offset}
use Rattle.refined_prices.specs.declared.clique.Clique.{Clique}
use Rattle.refined_prices.specs.Offsets.{OffsetBefore}
use Rattle.refined_prices.specs.Cliques.{CliqueBefore}

-- the first m elements are in range, and each stands before each later one
pub record AreOrdered {X : Type 0} (P : X → Type 0) (R : X → X → Type 0) (xs : List X) (m : ℕ) : Type 0 where
  pub each : (k : ℕ) (d : X) → k < m → P (get_or xs k d)
  pub pairs : (i j : ℕ) (d : X) → i < j → j < m → R (get_or xs i d) (get_or xs j d)

pub AreOrdered-none : {X : Type 0} (P : X → Type 0) (R : X → X → Type 0) (xs : List X) → AreOrdered P R xs 0
AreOrdered-none P R xs = record {
  each = λ k d l. absurd (omega (arith, l));
  pairs = λ i j d h l. absurd (omega (arith, l));
}

pub AreOrdered-more : {X : Type 0} (P : X → Type 0) (R : X → X → Type 0) (xs : List X) (m : ℕ)
    → ((x y z : X) → R x y → R y z → R x z) → AreOrdered P R xs m → ((d : X) → P (get_or xs m d))
    → ((d : X) → 0 < m → R (get_or xs (m - 1) d) (get_or xs m d)) → AreOrdered P R xs (m + 1)
AreOrdered-more {X} P R xs m trans h one next = record {
  each = λ k d l. each_at k d l (cases_eq k m);
  pairs = λ i j d h l. pair_at i j d h l (cases_eq j m);
}
  where
    each_at : (k : ℕ) (d : X) → k < m + 1 → (k ≡ m) ⊎ (k ≡ m → ⊥) → P (get_or xs k d)
    each_at k d l (inl e) = subst (λ (j : ℕ). P (get_or xs j d)) (sym e) (one d)
    each_at k d l (inr e) = h.each k d (omega (arith, l, e))

    to_last : (i : ℕ) (d : X) → i < m → (i ≡ m - 1) ⊎ (i ≡ m - 1 → ⊥) → R (get_or xs i d) (get_or xs m d)
    to_last i d l (inl e) = subst (λ (j : ℕ). R (get_or xs j d) (get_or xs m d)) (sym e) (next d (omega (arith, l)))
    to_last i d l (inr e) = trans (get_or xs i d) (get_or xs (m - 1) d) (get_or xs m d)
        (h.pairs i (m - 1) d (omega (arith, l, e)) (omega (arith, l))) (next d (omega (arith, l)))

    pair_at : (i j : ℕ) (d : X) → i < j → j < m + 1 → (j ≡ m) ⊎ (j ≡ m → ⊥) → R (get_or xs i d) (get_or xs j d)
    pair_at i j d l w (inl e) = subst (λ (k : ℕ). R (get_or xs i d) (get_or xs k d)) (sym e)
        (to_last i d (omega (arith, l, e)) (cases_eq i (m - 1)))
    pair_at i j d l w (inr e) = h.pairs i j d l (omega (arith, w, e))

pub AreOrdered-all : {X : Type 0} (P : X → Type 0) (R : X → X → Type 0) (xs : List X) (m : ℕ) → AreOrdered P R xs m
    → length xs ≤ m → AllByRecursion P xs × AllPairs R xs
AreOrdered-all P R xs m h l = (
  recursion_from_All P xs (λ k d w. h.each k d (omega (arith, w, l))),
  λ i j d w v. h.pairs i j d w (omega (arith, v, l)),
)

-- an element that isn't in range, or doesn't stand behind the one before it
pub refused_element : {X : Type 0} (P : X → Type 0) (R : X → X → Type 0) (xs : List X) (m : ℕ) (d : X) → m < length xs
    → (P (get_or xs m d) → ⊥) → AllByRecursion P xs × AllPairs R xs → ⊥
refused_element P R xs m d l bad w = bad (All-from_recursion P xs w.0 m d l)

pub refused_order : {X : Type 0} (P : X → Type 0) (R : X → X → Type 0) (xs : List X) (m : ℕ) → m < length xs
    → (((d : X) → 0 < m → R (get_or xs (m - 1) d) (get_or xs m d)) → ⊥) → AllByRecursion P xs × AllPairs R xs → ⊥
refused_order P R xs m l bad w = bad (λ d h. w.1 (m - 1) m d (omega (arith, h)) l)

-- ---- the orders of offsets and cliques

pub offsets_trans : (a b c : Offset) → OffsetBefore a b → OffsetBefore b c → OffsetBefore a c
offsets_trans a b c h k = by a.period a.intervention a.group b.period b.intervention b.group c.period c.intervention
    c.group h k
  where
    by : (t i g u j h v k f : ℕ) → (t < u) ⊎ ((t ≡ u) × ((i < j) ⊎ ((i ≡ j) × (g < h))))
        → (u < v) ⊎ ((u ≡ v) × ((j < k) ⊎ ((j ≡ k) × (h < f))))
        → (t < v) ⊎ ((t ≡ v) × ((i < k) ⊎ ((i ≡ k) × (g < f))))
    by t i g u j h v k f a b = grind arith

pub cliques_trans : (a b c : Clique) → CliqueBefore a b → CliqueBefore b c → CliqueBefore a c
cliques_trans a b c (inl h) (inl k) = inl (omega (arith, h, k))
cliques_trans a b c (inl h) (inr k) = let e = k.0 in inl (omega (arith, h, e))
cliques_trans a b c (inr h) (inl k) = let e = h.0 in inl (omega (arith, k, e))
cliques_trans a b c (inr h) (inr k) = inr (
  h.0 ∙ k.0,
  lists_trans a.members b.members c.members h.1 k.1,
)
  where
    less : (o : Ordering) → is_lt o ≡ true → o ≡ Less
    less Less e = refl
    less Equal e = absurd (cc)
    less Greater e = absurd (cc)

    lists_trans : (xs ys zs : List ℕ) → IsTrue (is_lt (slice_cmp nat_cmp xs ys))
        → IsTrue (is_lt (slice_cmp nat_cmp ys zs)) → IsTrue (is_lt (slice_cmp nat_cmp xs zs))
    lists_trans xs ys zs h k = ap is_lt (nat_list_cmp_total.trans xs ys zs (less (slice_cmp nat_cmp xs ys) h)
        (less (slice_cmp nat_cmp ys zs) k))

-- `<` of lists of numbers, by the order of lists
list_less : (xs ys : List ℕ) → is_some_and is_lt (slice_partial_cmp (λ (x y : ℕ). Some (nat_cmp x y)) xs ys)
    ≡ is_lt (slice_cmp nat_cmp xs ys)
list_less xs ys = ap (is_some_and is_lt) (lists_agrees {R = nat_cmp} (λ x y. refl) xs ys)

-- the members decide between cliques of one period
pub members_decide : (a b : Clique) (xs ys : List ℕ) (r : Bool) → a.period ≡ b.period → xs ≡ a.members → ys ≡ b.members
    → r ≡ is_some_and is_lt (slice_partial_cmp (λ (x y : ℕ). Some (nat_cmp x y)) xs ys)
    → (IsTrue r → CliqueBefore a b) × (CliqueBefore a b → IsTrue r)
members_decide a b xs ys r same first second less = (λ t. inr (same, sym is ∙ t), back)
  where
    is : r ≡ is_lt (slice_cmp nat_cmp a.members b.members)
    is = less ∙ list_less xs ys ∙ ap (λ (zs : List ℕ). is_lt (slice_cmp nat_cmp zs ys)) first
        ∙ ap (λ (zs : List ℕ). is_lt (slice_cmp nat_cmp a.members zs)) second

    back : CliqueBefore a b → IsTrue r
    back (inl h) = absurd (omega (arith, h, same))
    back (inr h) = is ∙ h.1
