-- The nodes of a tree, gone through without it.
use Rattle.std.proofs.Common.{◌≡◌, ℕ, refl, sym, ◌∙◌, ap, subst, List, [], ◌∷◌, ◌++◌, append_assoc}
use Rattle.std.specs.Bool.{⊤}
use Rattle.instance_model.specs.Tables.{Tables}
use Rattle.lagrange_bound.specs.declared.span.Span.{Span}
use Rattle.certificate_tree.specs.declared.node.Node.{Node}
use Rattle.certificate_tree.specs.declared.node.Node.TheVariants.{Split, Cost, Point, Band, Excl, Empty}
use Rattle.certificate_tree.specs.Trees.{Tree, leaf, split, Leaf, leaves, below, above, pre_order, IsSplit}
use Rattle.certificate_tree.specs.Ranges.{IsLeafInRange, IsTreeInRange}

-- the leaves that the nodes give over boxes that wait, the first one first
abbrev pub flat_leaves : List Node → List (List Span) → List Leaf
flat_leaves [] boxes = []
flat_leaves (n ∷ ns) [] = []
flat_leaves (Split i m ∷ ns) (b ∷ boxes) = flat_leaves ns (below b i m ∷ above b i m ∷ boxes)
flat_leaves (n ∷ ns) (b ∷ boxes) = (record { box = b; node = n }) ∷ flat_leaves ns boxes

-- they are in range over these boxes
abbrev pub AreFlat : Tables → ℕ → List Node → List (List Span) → Type 0
AreFlat inst lists [] boxes = ⊤
AreFlat inst lists (n ∷ ns) [] = ⊤
AreFlat inst lists (Split i m ∷ ns) (b ∷ boxes) =
    IsSplit b i m × AreFlat inst lists ns (below b i m ∷ above b i m ∷ boxes)
AreFlat inst lists (n ∷ ns) (b ∷ boxes) = IsLeafInRange inst lists n × AreFlat inst lists ns boxes

flat-pre_order : (inst : Tables) (lists : ℕ) (t : Tree) (box : List Span) (ns : List Node) (boxes : List (List Span))
    → IsTreeInRange inst lists box t → flat_leaves (pre_order t ++ ns) (box ∷ boxes)
    ≡ leaves box t ++ flat_leaves ns boxes
flat-pre_order inst lists (leaf n) box ns boxes h = at n h
  where
    at : (n : Node) → IsLeafInRange inst lists n → flat_leaves (n ∷ ns) (box ∷ boxes) ≡ record {
      box = box;
      node = n;
    } ∷ flat_leaves ns boxes
    at (Split i m) h = absurd h
    at (Cost j) h = refl
    at Point h = refl
    at (Band c t s) h = refl
    at (Excl e) h = refl
    at (Empty i) h = refl
flat-pre_order inst lists (split i m l r) box ns boxes h =
    ap (λ (xs : List Node). flat_leaves xs (below box i m ∷ above box i m ∷ boxes)) (append_assoc (pre_order l)
    (pre_order r) ns) ∙ flat-pre_order inst lists l (below box i m) (pre_order r ++ ns) (above box i m ∷ boxes) h.1
    ∙ ap (λ (xs : List Leaf). leaves (below box i m) l ++ xs) (flat-pre_order inst lists r (above box i m) ns boxes
    h.2) ∙ sym (append_assoc (leaves (below box i m) l) (leaves (above box i m) r) (flat_leaves ns boxes))

flat_in_range : (inst : Tables) (lists : ℕ) (t : Tree) (box : List Span) (ns : List Node) (boxes : List (List Span))
    → IsTreeInRange inst lists box t → AreFlat inst lists ns boxes
    → AreFlat inst lists (pre_order t ++ ns) (box ∷ boxes)
flat_in_range inst lists (leaf n) box ns boxes h k = at n h
  where
    at : (n : Node) → IsLeafInRange inst lists n → AreFlat inst lists (n ∷ ns) (box ∷ boxes)
    at (Split i m) h = absurd h
    at (Cost j) h = (h, k)
    at Point h = (h, k)
    at (Band c t s) h = (h, k)
    at (Excl e) h = (h, k)
    at (Empty i) h = (h, k)
flat_in_range inst lists (split i m l r) box ns boxes h k = (
  h.0,
  subst (λ (xs : List Node). AreFlat inst lists xs (below box i m ∷ above box i m ∷ boxes))
      (sym (append_assoc (pre_order l) (pre_order r) ns))
      (flat_in_range inst lists l (below box i m) (pre_order r ++ ns) (above box i m ∷ boxes) h.1
      (flat_in_range inst lists r (above box i m) ns boxes h.2 k)),
)

append-nil : {A : Type 0} (xs : List A) → xs ++ [] ≡ xs
append-nil [] = refl
append-nil (x ∷ xs) = ap (λ (ys : List _). x ∷ ys) (append-nil xs)

-- the whole list of leaves of a tree
pub leaves_are : (inst : Tables) (lists : ℕ) (t : Tree) (box : List Span) (nodes : List Node) → pre_order t ≡ nodes
    → IsTreeInRange inst lists box t → flat_leaves nodes (box ∷ []) ≡ leaves box t
leaves_are inst lists t box nodes e h = ap (λ (xs : List Node). flat_leaves xs (box ∷ [])) (sym e
    ∙ sym (append-nil (pre_order t))) ∙ flat-pre_order inst lists t box [] [] h ∙ append-nil (leaves box t)

pub nodes_are : (inst : Tables) (lists : ℕ) (t : Tree) (box : List Span) (nodes : List Node) → pre_order t ≡ nodes
    → IsTreeInRange inst lists box t → AreFlat inst lists nodes (box ∷ [])
nodes_are inst lists t box nodes e h = subst (λ (xs : List Node). AreFlat inst lists xs (box ∷ []))
    (append-nil (pre_order t) ∙ e) (flat_in_range inst lists t box [] [] h tt)
