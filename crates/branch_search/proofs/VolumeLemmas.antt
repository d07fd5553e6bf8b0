-- How many starts a box has, and why a tree of enough splits has single boxes alone.
use Rattle.std.proofs.Common.{◌≡◌, ℕ, zero, suc, ◌+◌, ◌-◌, ◌*◌, ◌<◌, ◌≤◌, ◌⊎◌, inl, inr, refl, sym, ◌∙◌, ap, subst}
use Rattle.std.proofs.Common.{arith, List, [], ◌∷◌, ◌++◌, length, get_or}
use Rattle.std.specs.Prelude.{Any}
use Rattle.std.proofs.Math.Nat.{eq-or-lt_of_le}
use Rattle.std.proofs.lemmas.Bool.{cases_lt}
use Rattle.std.proofs.lemmas.Nat.{mul-le}
use Rattle.std.proofs.lemmas.List.{length-append, length-set, get_or-set_same, get_or-set_other}
use Rattle.instance_model.specs.Naturals.{count_product}
use Rattle.instance_model.specs.Tables.{Tables, tmax}
use Rattle.instance_model.specs.Fitting.{IsFitting}
use Rattle.lagrange_bound.specs.declared.span.Span.{Span}
use Rattle.lagrange_bound.specs.Boxes.{span_of}
use Rattle.certificate_tree.specs.Trees.{Tree, leaf, split, Leaf, leaves, below, above, root_box, IsSplit}
use Rattle.certificate_tree.specs.Holding.{IsSingle}
use Rattle.certificate_tree.specs.Ranges.{IsTreeInRange}
use Rattle.certificate_tree.proofs.RootLemmas.{root_at, length-root, root_is_box, changed_at}
use Rattle.branch_search.specs.Splits.{split_boxes}

-- ---- products
product_same : (n : ℕ) (f g : ℕ → ℕ) → ((j : ℕ) → j < n → f j ≡ g j) → count_product n f ≡ count_product n g
unfolding count_product
product_same zero f g h = refl
product_same (suc n) f g h =
    let e = product_same n f g (λ j l. h j (omega (arith, l))) in
    ap (λ (x : ℕ). x * f n) e ∙ ap (λ (x : ℕ). count_product n g * x) (h n (omega arith))

-- a product of numbers above 0
product_some : (n : ℕ) (f : ℕ → ℕ) → ((j : ℕ) → j < n → 1 ≤ f j) → 1 ≤ count_product n f
unfolding count_product
product_some zero f h = omega arith
product_some (suc n) f h = mul-le 1 1 (count_product n f) (f n) (product_some n f (λ j l. h j (omega (arith, l))))
    (h n (omega arith))

-- and one of them is above 1
product_several : (n : ℕ) (f : ℕ → ℕ) (i : ℕ) → ((j : ℕ) → j < n → 1 ≤ f j) → i < n → 2 ≤ f i → 2 ≤ count_product n f
unfolding count_product
product_several zero f i h l two = absurd (omega (arith, l))
product_several (suc n) f i h l two =
    at (λ m. product_several n f i (λ j k. h j (omega (arith, k))) m two)
    (eq-or-lt_of_le (let m : i ≤ n = omega (arith, l) in m))
  where
    at : (i < n → 2 ≤ count_product n f) → (i ≡ n) ⊎ (i < n) → 2 ≤ count_product n f * f n
    at ih (inl e) = mul-le 1 2 (count_product n f) (f n) (product_some n f (λ j m. h j (omega (arith, m))))
        (subst (λ (k : ℕ). 2 ≤ f k) e two)
    at ih (inr m) = mul-le 2 1 (count_product n f) (f n) (ih m) (h n (omega arith))

-- one factor is the sum of two
product_parts : (n i : ℕ) (f g h : ℕ → ℕ) → i < n → f i + g i ≡ h i → ((j : ℕ) → (j ≡ i → ⊥) → f j ≡ h j)
    → ((j : ℕ) → (j ≡ i → ⊥) → g j ≡ h j) → count_product n f + count_product n g ≡ count_product n h
unfolding count_product
product_parts zero i f g h l e u v = absurd (omega (arith, l))
product_parts (suc n) i f g h l e u v =
    at (λ m. product_parts n i f g h m e u v) (eq-or-lt_of_le (let m : i ≤ n = omega (arith, l) in m))
  where
    at : (i < n → count_product n f + count_product n g ≡ count_product n h) → (i ≡ n) ⊎ (i < n)
        → count_product n f * f n + count_product n g * g n ≡ count_product n h * h n
    at ih (inl q) =
        let a = product_same n f h (λ j m. u j (λ r. omega (arith, r, q, m))) in
        let b = product_same n g h (λ j m. v j (λ r. omega (arith, r, q, m))) in
        let c : f n + g n ≡ h n = subst (λ (k : ℕ). f k + g k ≡ h k) q e in
        ap (λ (x : ℕ). x * f n + count_product n g * g n) a ∙ ap (λ (x : ℕ). count_product n h * f n + x * g n) b
        ∙ spread (count_product n h) (f n) (g n) ∙ ap (λ (x : ℕ). count_product n h * x) c
      where
        spread : (x a b : ℕ) → x * a + x * b ≡ x * (a + b)
        spread x a b = omega arith
    at ih (inr m) =
        let a = u n (λ r. omega (arith, r, m)) in
        let b = v n (λ r. omega (arith, r, m)) in
        let c = ih m in
        ap (λ (x : ℕ). count_product n f * x + count_product n g * g n) a
        ∙ ap (λ (x : ℕ). count_product n f * h n + count_product n g * x) b
        ∙ gathered (count_product n f) (count_product n g) (h n) ∙ ap (λ (x : ℕ). x * h n) c
      where
        gathered : (a b x : ℕ) → a * x + b * x ≡ (a + b) * x
        gathered a b x = omega arith

-- ---- the starts of a box
abbrev pub width : List Span → ℕ → ℕ
width box i = (span_of box i).to + 1 - (span_of box i).from

abbrev pub volume : List Span → ℕ
volume box = count_product (length box) (width box)

abbrev IsOrdered : List Span → Type 0
IsOrdered box = (i : ℕ) → i < length box → (span_of box i).from ≤ (span_of box i).to

-- some of two lists
pub any_parts : {A : Type 0} (P : A → Type 0) (xs ys : List A) → Any P (xs ++ ys) → Any P xs ⊎ Any P ys
any_parts P [] ys h = inr h
any_parts P (x ∷ xs) ys (zero, y, l, e, p) = inl (0, y, omega arith, e, p)
any_parts P (x ∷ xs) ys (suc k, y, l, e, p) = at (any_parts P xs ys (k, y, omega (arith, l), e, p))
  where
    at : Any P xs ⊎ Any P ys → Any P (x ∷ xs) ⊎ Any P ys
    at (inl (j, z, m, f, q)) = inl (suc j, z, omega (arith, m), f, q)
    at (inr h) = inr h

volume_parts : (box : List Span) (i m : ℕ) → IsSplit box i m
    → volume (below box i m) + volume (above box i m) ≡ volume box
volume_parts box i m s =
    ap (λ (n : ℕ). count_product n (width (below box i m)) + count_product (length (above box i m))
    (width (above box i m))) (length-set box i (record { from = (span_of box i).from; to = m }))
    ∙ ap (λ (n : ℕ). count_product (length box) (width (below box i m)) + count_product n (width (above box i m)))
    (length-set box i (record { from = m + 1; to = (span_of box i).to }))
    ∙ product_parts (length box) i (width (below box i m)) (width (above box i m)) (width box) s.number here
    (λ j d. ap (λ (t : Span). t.to + 1 - t.from)
    (get_or-set_other box i j (record { from = (span_of box i).from; to = m }) (record { from = 0; to = 0 }) d))
    (λ j d. ap (λ (t : Span). t.to + 1 - t.from)
    (get_or-set_other box i j (record { from = m + 1; to = (span_of box i).to }) (record { from = 0; to = 0 }) d))
  where
    here : width (below box i m) i + width (above box i m) i ≡ width box i
    here =
        let a = ap (λ (t : Span). t.to + 1 - t.from)
        (get_or-set_same box i (record { from = (span_of box i).from; to = m }) (record { from = 0; to = 0 })
        s.number) in
        let b = ap (λ (t : Span). t.to + 1 - t.from)
        (get_or-set_same box i (record { from = m + 1; to = (span_of box i).to }) (record { from = 0; to = 0 })
        s.number) in
        omega (arith, a, b, s.from, s.to)

below_ordered : (box : List Span) (i m : ℕ) → IsSplit box i m → IsOrdered box → IsOrdered (below box i m)
below_ordered box i m s h j l = changed_at (λ j t. t.from ≤ t.to) box i
    (record { from = (span_of box i).from; to = m }) s.number s.from j
    (h j (omega (arith, l, length-set box i (record { from = (span_of box i).from; to = m }))))

above_ordered : (box : List Span) (i m : ℕ) → IsSplit box i m → IsOrdered box → IsOrdered (above box i m)
above_ordered box i m s h j l = changed_at (λ j t. t.from ≤ t.to) box i
    (record { from = m + 1; to = (span_of box i).to }) s.number (omega (arith, s.to)) j
    (h j (omega (arith, l, length-set box i (record { from = m + 1; to = (span_of box i).to }))))

volume_some : (box : List Span) → IsOrdered box → 1 ≤ volume box
volume_some box h = product_some (length box) (width box) (λ j l. let o = h j l in omega (arith, o))

-- a box of one plan alone is single
single_from : (box : List Span) → IsOrdered box → volume box ≤ 1 → IsSingle box
single_from box h v i l = at (cases_lt 1 (width box i))
  where
    at : (1 < width box i) ⊎ (width box i ≤ 1) → (span_of box i).from ≡ (span_of box i).to
    at (inl w) =
        let two = product_several (length box) (width box) i (λ j m. let o = h j m in omega (arith, o)) l
        (omega (arith, w)) in
        absurd (omega (arith, two, v))
    at (inr w) = let o = h i l in omega (arith, o, w)

-- ---- trees
tree_volume : (inst : Tables) (lists : ℕ) (box : List Span) (t : Tree) → IsTreeInRange inst lists box t
    → IsOrdered box → length (split_boxes box t) + 1 ≤ volume box
tree_volume inst lists box (leaf n) r h = volume_some box h
tree_volume inst lists box (split i m l x) r h =
    let a = tree_volume inst lists (below box i m) l r.1 (below_ordered box i m r.0 h) in
    let b = tree_volume inst lists (above box i m) x r.2 (above_ordered box i m r.0 h) in
    let c = volume_parts box i m r.0 in
    let d = length-append (split_boxes (below box i m) l) (split_boxes (above box i m) x) in
    omega (arith, a, b, c, d)

-- a leaf of several plans leaves room for a split more
several_volume : (inst : Tables) (lists : ℕ) (box : List Span) (t : Tree) → IsTreeInRange inst lists box t
    → IsOrdered box → Any (λ x. ¬ IsSingle x.box) (leaves box t) → length (split_boxes box t) + 2 ≤ volume box
several_volume inst lists box (leaf n) r h (k, x, l, e, s) = at (cases_lt 1 (volume box))
  where
    at : (1 < volume box) ⊎ (volume box ≤ 1) → 0 + 2 ≤ volume box
    at (inl v) = omega (arith, v)
    at (inr v) = absurd (subst (λ (y : Leaf). ¬ IsSingle y.box) (sym (only k x l e)) s (single_from box h v))
      where
        only : (k : ℕ) (x : Leaf) → k < 1 → get_or ((record { box = box; node = n }) ∷ []) k x ≡ x
            → record { box = box; node = n } ≡ x
        only zero x l e = e
        only (suc k) x l e = absurd (omega (arith, l))
several_volume inst lists box (split i m l x) r h some =
    let c = volume_parts box i m r.0 in
    let d = length-append (split_boxes (below box i m) l) (split_boxes (above box i m) x) in
    at (λ s. several_volume inst lists (below box i m) l r.1 (below_ordered box i m r.0 h) s)
    (λ s. several_volume inst lists (above box i m) x r.2 (above_ordered box i m r.0 h) s)
    (any_parts (λ y. ¬ IsSingle y.box) (leaves (below box i m) l) (leaves (above box i m) x) some) c d
  where
    at : (Any (λ y. ¬ IsSingle y.box) (leaves (below box i m) l)
        → length (split_boxes (below box i m) l) + 2 ≤ volume (below box i m))
        → (Any (λ y. ¬ IsSingle y.box) (leaves (above box i m) x)
        → length (split_boxes (above box i m) x) + 2 ≤ volume (above box i m))
        → Any (λ y. ¬ IsSingle y.box) (leaves (below box i m) l) ⊎ Any (λ y. ¬ IsSingle y.box) (leaves (above box i m)
        x)
        → volume (below box i m) + volume (above box i m) ≡ volume box
        → length (split_boxes (below box i m) l ++ split_boxes (above box i m) x)
        ≡ length (split_boxes (below box i m) l) + length (split_boxes (above box i m) x)
        → suc (length (split_boxes (below box i m) l ++ split_boxes (above box i m) x)) + 2 ≤ volume box
    at il ir (inl s) c d =
        let a = il s in
        let b = tree_volume inst lists (above box i m) x r.2 (above_ordered box i m r.0 h) in
        omega (arith, a, b, c, d)
    at il ir (inr s) c d =
        let a = tree_volume inst lists (below box i m) l r.1 (below_ordered box i m r.0 h) in
        let b = ir s in
        omega (arith, a, b, c, d)

-- ---- the root
root_volume : (inst : Tables) → volume (root_box inst) ≡ count_product (length inst.names) (tmax inst)
root_volume inst = ap (λ (n : ℕ). count_product n (width (root_box inst))) (length-root inst)
    ∙ product_same (length inst.names) (width (root_box inst)) (tmax inst)
    (λ j l. ap (λ (t : Span). t.to + 1 - t.from) (root_at inst j l) ∙ one_to (tmax inst j))
  where
    one_to : (n : ℕ) → n + 1 - 1 ≡ n
    one_to n = omega arith

pub too_few : (inst : Tables) (lists : ℕ) (t : Tree) → IsFitting inst → IsTreeInRange inst lists (root_box inst) t
    → Any (λ x. ¬ IsSingle x.box) (leaves (root_box inst) t)
    → length (split_boxes (root_box inst) t) + 2 ≤ count_product (length inst.names) (tmax inst)
too_few inst lists t fits r some =
    let b = root_is_box inst fits in
    let v = several_volume inst lists (root_box inst) t r
    (λ i l. b.order i (omega (arith, l, length-root inst))) some in
    omega (arith, v, root_volume inst)
