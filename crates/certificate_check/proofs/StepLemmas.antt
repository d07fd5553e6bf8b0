-- A step of the walk over the nodes.
use Rattle.std.proofs.Common.{◌≡◌, ℕ, zero, suc, ◌+◌, ◌-◌, ◌<◌, ◌≤◌, ◌⊎◌, inl, inr, refl, sym, ◌∙◌, ap, subst, arith}
use Rattle.std.proofs.Common.{List, [], ◌∷◌, length, get_or, drop, add-one, length-drop, IsTrue, Bool, false, All}
use Rattle.std.proofs.lemmas.Bool.{false≢true}
use Rattle.std.proofs.Math.Nat.{eq-or-lt_of_le}
use Rattle.instance_model.specs.Tables.{Tables}
use Rattle.instance_model.specs.Fitting.{IsFitting}
use Rattle.lagrange_bound.specs.declared.span.Span.{Span}
use Rattle.lagrange_bound.specs.Boxes.{IsBox}
use Rattle.certificate_tree.specs.declared.node.Node.{Node}
use Rattle.certificate_tree.specs.declared.node.Node.TheVariants.{Split, Cost, Point, Band, Excl, Empty}
use Rattle.certificate_tree.specs.Walk.{first_box, other_boxes}
use Rattle.certificate_tree.specs.Trees.{Tree, Leaf, leaves, root_box, below, above, IsSplit}
use Rattle.certificate_tree.specs.Ranges.{IsLeafInRange, AreNodesOf}
use Rattle.certificate_tree.specs.Validity.{FailsFirst}
use Rattle.certificate_tree.proofs.RootLemmas.{parts_are_boxes, root_is_box}
use Rattle.certificate_check.proofs.FlatLemmas.{flat_leaves, AreFlat, leaves_are, nodes_are}

-- ---- lists
head_of_drop : {A : Type 0} (xs : List A) (n : ℕ) (y : A) (ys : List A) → drop n xs ≡ y ∷ ys
    → (n < length xs) × ((d : A) → get_or xs n d ≡ y) × (drop (suc n) xs ≡ ys)
head_of_drop {A} [] n y ys e = absurd (let l = ap (λ (zs : List A). length zs) e in let m = length-drop {A = A} n [] in
    omega (arith, l, m))
head_of_drop (x ∷ xs) zero y ys e =
    (omega arith, λ d. ap (λ (zs : List _). get_or zs 0 d) e, ap (λ (zs : List _). drop 1 zs) e)
head_of_drop (x ∷ xs) (suc n) y ys e = let w = head_of_drop xs n y ys e in (omega (arith, w.0), w.1, w.2)

drop_here : {A : Type 0} (xs : List A) (n : ℕ) (y : A) → n < length xs → y ≡ get_or xs n y
    → drop n xs ≡ y ∷ drop (suc n) xs
drop_here [] n y h e = absurd (omega (arith, h))
drop_here (x ∷ xs) zero y h e = ap (λ (z : _). z ∷ xs) (sym e)
drop_here (x ∷ xs) (suc n) y h e = drop_here xs n y (omega (arith, h)) e

pub head_of : {A : Type 0} (P : A → Type 0) (x : A) (xs : List A) → All P (x ∷ xs) → P x
head_of P x xs h = h 0 x (omega arith)

pub rest_of : {A : Type 0} (P : A → Type 0) (x : A) (xs : List A) → All P (x ∷ xs) → All P xs
rest_of P x xs h i d l = h (suc i) d (omega (arith, l))

pub put_before : {A : Type 0} (P : A → Type 0) (x : A) (xs : List A) → P x → All P xs → All P (x ∷ xs)
put_before P x xs p h zero d l = p
put_before P x xs p h (suc i) d l = h i d (omega (arith, l))

-- ---- a leaf
abbrev pub NotSplit : Node → Type 0
NotSplit n = (i m : ℕ) → n ≡ Split i m → ⊥

flat-leaf : (n : Node) (ns : List Node) (b : List Span) (bs : List (List Span)) → NotSplit n
    → flat_leaves (n ∷ ns) (b ∷ bs) ≡ record { box = b; node = n } ∷ flat_leaves ns bs
flat-leaf (Split i m) ns b bs h = absurd (h i m refl)
flat-leaf (Cost j) ns b bs h = refl
flat-leaf Point ns b bs h = refl
flat-leaf (Band c t s) ns b bs h = refl
flat-leaf (Excl e) ns b bs h = refl
flat-leaf (Empty i) ns b bs h = refl

leaf_in_range : (inst : Tables) (lists : ℕ) (n : Node) (ns : List Node) (b : List Span) (bs : List (List Span))
    → NotSplit n → AreFlat inst lists (n ∷ ns) (b ∷ bs) → IsLeafInRange inst lists n × AreFlat inst lists ns bs
leaf_in_range inst lists (Split i m) ns b bs h k = absurd (h i m refl)
leaf_in_range inst lists (Cost j) ns b bs h k = k
leaf_in_range inst lists Point ns b bs h k = k
leaf_in_range inst lists (Band c t s) ns b bs h k = k
leaf_in_range inst lists (Excl e) ns b bs h k = k
leaf_in_range inst lists (Empty i) ns b bs h k = k

-- where the walk is: count leaves were passed, at node k, and these boxes wait
pub record IsAt (inst : Tables) (lists : ℕ) (nodes : List Node) (total : List Leaf) (k count : ℕ)
    (path : List (List Span)) : Type 0 where
  pub same : drop count total ≡ flat_leaves (drop k nodes) path
  pub nodes_in_range : AreFlat inst lists (drop k nodes) path
  pub boxes : All (IsBox inst) path
  pub few : count ≤ k

-- what a leaf at place k does
pub record LeafStep (inst : Tables) (lists : ℕ) (nodes : List Node) (total : List Leaf) (k count : ℕ)
    (path : List (List Span)) (n : Node) : Type 0 where
  pub leaf_range : IsLeafInRange inst lists n
  pub is_box : IsBox inst (first_box path)
  pub within : count < length total
  pub here : (d : Leaf) → get_or total count d ≡ record { box = first_box path; node = n }
  pub after : IsAt inst lists nodes total (k + 1) (count + 1) (other_boxes path)

pub leaf_step : (inst : Tables) (lists : ℕ) (nodes : List Node) (total : List Leaf) (k count : ℕ)
    (path : List (List Span)) (n : Node) → k < length nodes → n ≡ get_or nodes k n → NotSplit n → 0 < length path
    → IsAt inst lists nodes total k count path → LeafStep inst lists nodes total k count path n
leaf_step inst lists nodes total k count [] n h is l some a = absurd (omega (arith, some))
leaf_step inst lists nodes total k count (b ∷ bs) n h is l some a =
    let e = drop_here nodes k n h is in
    let f = a.same ∙ ap (λ (xs : List Node). flat_leaves xs (b ∷ bs)) e ∙ flat-leaf n (drop (suc k) nodes) b bs l in
    let w = head_of_drop total count (record { box = b; node = n }) (flat_leaves (drop (suc k) nodes) bs) f in
    let v = leaf_in_range inst lists n (drop (suc k) nodes) b bs l
    (subst (λ (xs : List Node). AreFlat inst lists xs (b ∷ bs)) e a.nodes_in_range) in
    record {
      leaf_range = v.0;
      is_box = head_of (IsBox inst) b bs a.boxes;
      within = w.0;
      here = w.1;
      after =
          record {
            same = rw (add-one count, add-one k) w.2;
            nodes_in_range = rw (add-one k) v.1;
            boxes = rest_of (IsBox inst) b bs a.boxes;
            few = omega (arith, a.few);
          };
    }

-- what a split at place k does
pub record SplitStep (inst : Tables) (lists : ℕ) (nodes : List Node) (total : List Leaf) (k count : ℕ)
    (path : List (List Span)) (i m : ℕ) : Type 0 where
  pub splits : IsSplit (first_box path) i m
  pub after : IsAt inst lists nodes total (k + 1) count
      (below (first_box path) i m ∷ above (first_box path) i m ∷ other_boxes path)

pub split_step : (inst : Tables) (lists : ℕ) (nodes : List Node) (total : List Leaf) (k count : ℕ)
    (path : List (List Span)) (n : Node) (i m : ℕ) → k < length nodes → n ≡ get_or nodes k n → n ≡ Split i m
    → 0 < length path → IsAt inst lists nodes total k count path → SplitStep inst lists nodes total k count path i m
split_step inst lists nodes total k count [] n i m h is s some a = absurd (omega (arith, some))
split_step inst lists nodes total k count (b ∷ bs) n i m h is s some a =
    let e = drop_here nodes k n h is ∙ ap (λ (x : Node). x ∷ drop (suc k) nodes) s in
    let f = a.same ∙ ap (λ (xs : List Node). flat_leaves xs (b ∷ bs)) e in
    let v = subst (λ (xs : List Node). AreFlat inst lists xs (b ∷ bs)) e a.nodes_in_range in
    let p = parts_are_boxes inst b i m (head_of (IsBox inst) b bs a.boxes) v.0 in
    record {
      splits = v.0;
      after =
          record {
            same = rw (add-one k) f;
            nodes_in_range = rw (add-one k) v.1;
            boxes = put_before (IsBox inst) (below b i m) (above b i m ∷ bs) p.0
                (put_before (IsBox inst) (above b i m) bs p.1 (rest_of (IsBox inst) b bs a.boxes));
            few = omega (arith, a.few);
          };
    }

-- ---- the verdict at a leaf that fails, and at the end
pub fails_first : (Holds : Leaf → Type 0) (total ls : List Leaf) (count : ℕ) (x : Leaf) → total ≡ ls
    → count < length total → ((d : Leaf) → get_or total count d ≡ x) → (Holds x → ⊥)
    → ((k : ℕ) (d : Leaf) → k < count → Holds (get_or total k d)) → FailsFirst Holds ls (count + 1)
fails_first Holds total ls count x e l here not_it before =
    subst (λ (xs : List Leaf). FailsFirst Holds xs (count + 1)) e (record {
      from = omega arith;
      to = omega (arith, l);
      before = λ k d h. before k d (omega (arith, h));
      fails =
          λ d h. not_it (let z : count + 1 - 1 ≡ count = omega arith in let w = rw z at h in subst Holds (here d) w);
    })

pub all_hold : (Holds : Leaf → Type 0) (total ls : List Leaf) (count : ℕ) → total ≡ ls → drop count total ≡ []
    → ((k : ℕ) (d : Leaf) → k < count → Holds (get_or total k d)) → All Holds ls
all_hold Holds total ls count e none before = subst (λ (xs : List Leaf). All Holds xs) e
    (λ k d h. before k d (let m = ap (λ (xs : List Leaf). length xs) none in let n = length-drop count total in
    omega (arith, h, m, n)))

pub more_hold : (Holds : Leaf → Type 0) (total : List Leaf) (count : ℕ) (x : Leaf)
    → ((d : Leaf) → get_or total count d ≡ x) → Holds x → ((k : ℕ) (d : Leaf) → k < count → Holds (get_or total k d))
    → (k : ℕ) (d : Leaf) → k < count + 1 → Holds (get_or total k d)
more_hold Holds total count x here it_holds before k d h = let l : k ≤ count = omega (arith, h) in at (eq-or-lt_of_le l)
  where
    at : (k ≡ count) ⊎ (k < count) → Holds (get_or total k d)
    at (inl e) = subst (λ (j : ℕ). Holds (get_or total j d)) (sym e) (subst Holds (sym (here d)) it_holds)
    at (inr l) = before k d l

pub still_some : (b : Bool) (n : ℕ) → (IsTrue b → n ≡ 0) × (n ≡ 0 → IsTrue b) → b ≡ false → 0 < n
still_some b zero w e = absurd (false≢true (sym e ∙ w.1 refl))
still_some b (suc n) w e = omega arith

flat-none : (ns : List Node) → flat_leaves ns [] ≡ []
flat-none [] = refl
flat-none (n ∷ ns) = refl

pub flat_ended : (ns : List Node) (path : List (List Span)) → length path ≡ 0 → flat_leaves ns path ≡ []
flat_ended ns [] e = flat-none ns
flat_ended ns (b ∷ bs) e = absurd (omega (arith, e))

pub flat_past : (ns : List Node) (k : ℕ) (path : List (List Span)) → length ns ≤ k → flat_leaves (drop k ns) path ≡ []
flat_past [] zero path h = refl
flat_past [] (suc k) path h = refl
flat_past (n ∷ ns) zero path h = absurd (omega (arith, h))
flat_past (n ∷ ns) (suc k) path h = flat_past ns k path (omega (arith, h))

-- ---- the walk at its beginning, and all its leaves
pub start_at : (inst : Tables) (lists : ℕ) (nodes : List Node) (path : List (List Span)) (t : Tree)
    → IsFitting inst → path ≡ root_box inst ∷ [] → AreNodesOf inst lists (root_box inst) t nodes
    → IsAt inst lists nodes (flat_leaves nodes (root_box inst ∷ [])) 0 0 path
start_at inst lists nodes path t f e o =
    rw e (record {
      same = refl;
      nodes_in_range = nodes_are inst lists t (root_box inst) nodes o.order o.in_range;
      boxes = put_before (IsBox inst) (root_box inst) [] (root_is_box inst f) (λ i d l. absurd (omega (arith, l)));
      few = omega arith;
    })

pub tree_leaves : (inst : Tables) (lists : ℕ) (nodes : List Node) (t : Tree)
    → AreNodesOf inst lists (root_box inst) t nodes → flat_leaves nodes (root_box inst ∷ []) ≡ leaves (root_box inst) t
tree_leaves inst lists nodes t o = leaves_are inst lists t (root_box inst) nodes o.order o.in_range
