-- The order of load cells, and lists that are sorted by it.
use Rattle.std.proofs.Common.{◌≡◌, ℕ, suc, ◌+◌, ◌<◌, ◌≤◌, ◌==◌, ◌&&◌, ◌||◌, ◌⊎◌, inl, inr, Bool, true, false, cond}
use Rattle.std.proofs.Common.{List, [], ◌∷◌, ◌++◌, get_or, refl, sym, ◌∙◌, ap, subst, arith, nat_lt}
use Rattle.std.specs.Prelude.{sum_by, IsPermutation}
use Rattle.std.proofs.lemmas.List.Sums.{sum_by-cons, sum_by-append}
use Rattle.std.proofs.lemmas.List.Sorted.{sum_by-IsPermutation}
use Rattle.std.proofs.Common.{Less, Equal, Greater}
use Rattle.std.specs.List.Sorted.{IsSortedBy}
use Rattle.std.specs.Ordering.{is_lt, nat_cmp, ordering_then}
use Rattle.std.proofs.lemmas.Bool.Decides.{nat_tests}
use Rattle.instance_model.specs.declared.parts.LoadCell.{LoadCell}
use Rattle.instance_model.specs.Fitting.{KeyBefore, CellBefore}
use Rattle.instance_model.specs.Tables.{is_cell_of}
use Rattle.instance_rows.specs.Cells.{precedes}
use Rattle.instance_rows.proofs.Ascending.{Among, Rises}

-- ---- keys

pub key_trans : (s t c u v d x y z : ℕ) → KeyBefore s t c u v d → KeyBefore u v d x y z → KeyBefore s t c x y z
key_trans s t c u v d x y z (inl a) (inl b) = inl (omega arith)
key_trans s t c u v d x y z (inl a) (inr b) = inl (omega (arith, b.0))
key_trans s t c u v d x y z (inr a) (inl b) = inl (omega (arith, a.0))
key_trans s t c u v d x y z (inr a) (inr b) = inr (omega (arith, a.0, b.0), by a.1 b.1)
  where
    by : (t < v) ⊎ ((t ≡ v) × (c < d)) → (v < y) ⊎ ((v ≡ y) × (d < z)) → (t < y) ⊎ ((t ≡ y) × (c < z))
    by (inl a) (inl b) = inl (omega arith)
    by (inl a) (inr b) = inl (omega (arith, b.0))
    by (inr a) (inl b) = inl (omega (arith, a.0))
    by (inr a) (inr b) = inr (omega (arith, a.0, b.0), omega (arith, a.1, b.1))

pub key_asym : (s t c u v d : ℕ) → KeyBefore s t c u v d → KeyBefore u v d s t c → ⊥
key_asym s t c u v d (inl a) (inl b) = omega arith
key_asym s t c u v d (inl a) (inr b) = omega (arith, b.0)
key_asym s t c u v d (inr a) (inl b) = omega (arith, a.0)
key_asym s t c u v d (inr a) (inr b) = by a.1 b.1
  where
    by : (t < v) ⊎ ((t ≡ v) × (c < d)) → (v < t) ⊎ ((v ≡ t) × (d < c)) → ⊥
    by (inl a) (inl b) = omega arith
    by (inl a) (inr b) = omega (arith, b.0)
    by (inr a) (inl b) = omega (arith, a.0)
    by (inr a) (inr b) = omega (arith, a.1, b.1)

pub cell_asym : (a b : LoadCell) → CellBefore a b → CellBefore b a → ⊥
cell_asym a b = key_asym a.start a.period a.resource b.start b.period b.resource

cell_trans : (a b c : LoadCell) → CellBefore a b → CellBefore b c → CellBefore a c
cell_trans a b c = key_trans a.start a.period a.resource b.start b.period b.resource c.start c.period c.resource

-- where the one key doesn't stand behind and isn't the same, it stands before
in_front : (s t c u v d : ℕ) → nat_lt u s || ((u == s) && (nat_lt v t || ((v == t) && nat_lt d c))) ≡ false
    → ((s ≡ u) → (t ≡ v) → (c ≡ d) → ⊥) → KeyBefore s t c u v d
in_front s t c u v d h n = by (nat_lt s u) (nat_lt u s) (nat_lt t v) (nat_lt v t) (nat_lt c d) (nat_lt d c) refl
    refl refl refl refl refl
  where
    lt : (a b : ℕ) → nat_lt a b ≡ true → a < b
    lt a b e = grind (arith, nat_tests)

    same : (a b : ℕ) → nat_lt a b ≡ false → nat_lt b a ≡ false → a ≡ b
    same a b e f = grind (arith, nat_tests)

    equal : (a b : ℕ) → a ≡ b → (b == a) ≡ true
    equal a b e = grind (arith, nat_tests)

    starts : nat_lt u s ≡ true → ⊥
    starts e = clash (sym (ap (λ q. q || ((u == s) && (nat_lt v t || ((v == t) && nat_lt d c)))) e) ∙ h)
      where
        clash : true ≡ false → ⊥
        clash h = cc

    rest : s ≡ u → nat_lt u s ≡ false → nat_lt v t || ((v == t) && nat_lt d c) ≡ false
    rest e f = sym (ap (λ q. q || ((u == s) && (nat_lt v t || ((v == t) && nat_lt d c)))) f
        ∙ ap (λ q. q && (nat_lt v t || ((v == t) && nat_lt d c))) (equal s u e)) ∙ h

    last : t ≡ v → nat_lt v t ≡ false → nat_lt v t || ((v == t) && nat_lt d c) ≡ false → nat_lt d c ≡ false
    last e f g = sym (ap (λ q. q || ((v == t) && nat_lt d c)) f ∙ ap (λ q. q && nat_lt d c) (equal t v e)) ∙ g

    not_behind : nat_lt v t ≡ true → nat_lt v t || ((v == t) && nat_lt d c) ≡ false → ⊥
    not_behind e g = clash (sym (ap (λ q. q || ((v == t) && nat_lt d c)) e) ∙ g)
      where
        clash : true ≡ false → ⊥
        clash h = cc

    clash : (b : Bool) → b ≡ true → b ≡ false → ⊥
    clash b x y = cc

    by : (a b e f g i : Bool) → nat_lt s u ≡ a → nat_lt u s ≡ b → nat_lt t v ≡ e → nat_lt v t ≡ f → nat_lt c d ≡ g
        → nat_lt d c ≡ i → KeyBefore s t c u v d
    by true b e f g i p q r w x y = inl (lt s u p)
    by false true e f g i p q r w x y = absurd (starts q)
    by false false true f g i p q r w x y = inr (same s u p q, inl (lt t v r))
    by false false false true g i p q r w x y = absurd (not_behind w (rest (same s u p q) q))
    by false false false false true i p q r w x y = inr (same s u p q, inr (same t v r w, lt c d x))
    by false false false false false true p q r w x y =
        absurd (clash (nat_lt d c) y (last (same t v r w) w (rest (same s u p q) q)))
    by false false false false false false p q r w x y = absurd (n (same s u p q) (same t v r w) (same c d x y))

-- ---- how often a key stands in a list

pub weight : ℕ → ℕ → ℕ → List LoadCell → ℕ
weight s t c cells = sum_by (λ z. cond (is_cell_of s t c z) 1 0) cells

pub weight-cons : (s t c : ℕ) (z : LoadCell) (zs : List LoadCell)
    → weight s t c (z ∷ zs) ≡ cond (is_cell_of s t c z) 1 0 + weight s t c zs
unfolding weight
weight-cons s t c z zs = sum_by-cons (λ z. cond (is_cell_of s t c z) 1 0) z zs

pub weight-nil : (s t c : ℕ) → weight s t c [] ≡ 0
unfolding weight
weight-nil s t c = refl

pub weight-append : (s t c : ℕ) (xs ys : List LoadCell) → weight s t c (xs ++ ys) ≡ weight s t c xs + weight s t c ys
unfolding weight
weight-append s t c xs ys = sum_by-append (λ z. cond (is_cell_of s t c z) 1 0) xs ys

equal : (a b : ℕ) → a ≡ b → (a == b) ≡ true
equal a b e = grind (arith, nat_tests)

-- the order doesn't matter
pub weight_moved : (s t c : ℕ) (xs ys : List LoadCell) → IsPermutation xs ys → weight s t c ys ≡ weight s t c xs
unfolding weight
weight_moved s t c xs ys p = sum_by-IsPermutation (λ z. cond (is_cell_of s t c z) 1 0) xs ys p

-- a cell of the key counts
pub counts : (s t c : ℕ) (z : LoadCell) → z.start ≡ s → z.period ≡ t → z.resource ≡ c → cond {A =
    ℕ} (is_cell_of s t c z) 1 0 ≡ 1
counts s t c z a b d =
    let one : ℕ = 1 in
    ap (λ q. cond (q && (z.period == t) && (z.resource == c)) one 0) (equal z.start s a)
    ∙ ap (λ q. cond (q && (z.resource == c)) one 0) (equal z.period t b)
    ∙ ap (λ q. cond q one 0) (equal z.resource c d)

-- ---- sorted lists

-- no key stands twice
abbrev pub IsOnce : List LoadCell → Type 0
IsOnce cells = (s t c : ℕ) → weight s t c cells ≤ 1

-- a sorted list in which no key stands twice is in strict order
pub rises_sorted : (cells : List LoadCell) → IsSortedBy precedes cells → IsOnce cells → Rises CellBefore cells
rises_sorted [] up once = tt
rises_sorted (x ∷ []) up once = (λ y m. absurd m, tt)
rises_sorted (x ∷ (y ∷ zs)) up once =
    let here : CellBefore x y =
    in_front x.start x.period x.resource y.start y.period y.resource (up 0 x (omega arith) (omega arith)) twice in
    let rest : Rises CellBefore (y ∷ zs) = rises_sorted (y ∷ zs)
    (λ k d l m. next k d (up (suc k) d (omega arith) (omega arith)))
    (λ s t c. omega (arith, once s t c, weight-cons s t c x (y ∷ zs))) in
    (λ z m. by here rest z m, rest)
  where
    next : (k : ℕ) (d : LoadCell) → precedes (get_or (x ∷ (y ∷ zs)) (suc k + 1) d) (get_or (y ∷ zs) k d) ≡ false
        → precedes (get_or (y ∷ zs) (k + 1) d) (get_or (y ∷ zs) k d) ≡ false
    next k d h = let e : suc k + 1 ≡ suc (k + 1) = omega arith in
        subst (λ i. precedes (get_or (x ∷ (y ∷ zs)) i d) (get_or (y ∷ zs) k d) ≡ false) e h

    twice : x.start ≡ y.start → x.period ≡ y.period → x.resource ≡ y.resource → ⊥
    twice a b d =
        let one = counts x.start x.period x.resource x refl refl refl in
        let two = counts x.start x.period x.resource y (sym a) (sym b) (sym d) in
        omega (
          arith,
          once x.start x.period x.resource,
          weight-cons x.start x.period x.resource x (y ∷ zs),
          weight-cons x.start x.period x.resource y zs,
          one,
          two,
        )

    by : CellBefore x y → Rises CellBefore (y ∷ zs) → (z : LoadCell) → (y ≡ z) ⊎ Among zs z → CellBefore x z
    by here rest z (inl e) = subst (λ (q : LoadCell). CellBefore x q) e here
    by here rest z (inr m) = cell_trans x y z here (rest.0 z m)

-- ---- what the sort compares

compared : (a b c d e f : ℕ) → is_lt (ordering_then (ordering_then (nat_cmp a b) (nat_cmp c d)) (nat_cmp e f))
    ≡ nat_lt a b || ((a == b) && (nat_lt c d || ((c == d) && nat_lt e f)))
compared a b c d e f = by (nat_lt a b) (a == b) (nat_lt c d) (c == d) (nat_lt e f) (e == f)
  where
    by : (l q m r n s : Bool)
        → is_lt (ordering_then (ordering_then (cond l Less (cond q Equal Greater)) (cond m Less (cond r Equal Greater)))
        (cond n Less (cond s Equal Greater)))
        ≡ l || (q && (m || (r && n)))
    by true q m r n s = refl
    by false true true r n s = refl
    by false true false true true s = refl
    by false true false true false true = refl
    by false true false true false false = refl
    by false true false false n s = refl
    by false false m r n s = refl

pub precedes_is : (a b : LoadCell)
    → precedes a b ≡ is_lt (ordering_then (ordering_then (nat_cmp a.start b.start) (nat_cmp a.period b.period))
    (nat_cmp a.resource b.resource))
precedes_is a b = sym (compared a.start b.start a.period b.period a.resource b.resource)
